use Rattle.std.proofs.Common.{ℕ, ltb, ltb-true, ltb-false, arith, rules}
use Rattle.std.proofs.lemmas.List.Sorted.{IsPartitionPoint-from_clause, IsPartitionedBy-ltb}
use Rattle.known_runs.proofs.differing.place_of.Goals as goal

pub returns-clause-before : goal.returns-clause-before
returns-clause-before c = λ rises.
    let parted = IsPartitionedBy-ltb (λ (n : ℕ). n) _ c.args.number rises in
    let point = IsPartitionPoint-from_clause (λ (n : ℕ). ltb n c.args.number) _ _ c.partition_point.ensures.partitioned parted (λ a r q k. search rules) in
    λ k d h. ltb-true _ _ (point.0 k d (omega arith) h)

pub returns-clause-beyond : goal.returns-clause-beyond
returns-clause-beyond c = λ rises.
    let parted = IsPartitionedBy-ltb (λ (n : ℕ). n) _ c.args.number rises in
    let point = IsPartitionPoint-from_clause (λ (n : ℕ). ltb n c.args.number) _ _ c.partition_point.ensures.partitioned parted (λ a r q k. search rules) in
    λ k d h lt. ltb-false _ _ (point.1 k d h lt)
