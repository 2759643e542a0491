use Rattle.std.proofs.Common.{ltb, ltb-true, ltb-false, arith, rules}
use Rattle.std.proofs.lemmas.List.Sorted.{IsPartitionPoint-from_clause, IsPartitionedBy-ltb}
use Rattle.epochs.specs.declared.unit.Unit.{Unit as LogUnit}
use Rattle.images.proofs.table.count_below.Goals as goal

pub returns-clause-before : goal.returns-clause-before
returns-clause-before c =
    let parted = IsPartitionedBy-ltb (λ (u : LogUnit). u.sector) _ c.args.number c.requires in
    let point = IsPartitionPoint-from_clause (λ (u : LogUnit). ltb u.sector c.args.number) _ _ c.partition_point.ensures.partitioned parted (λ a r q k. search rules) in
    λ k d h. ltb-true _ _ (point.0 k d (omega arith) h)

pub returns-clause-beyond : goal.returns-clause-beyond
returns-clause-beyond c =
    let parted = IsPartitionedBy-ltb (λ (u : LogUnit). u.sector) _ c.args.number c.requires in
    let point = IsPartitionPoint-from_clause (λ (u : LogUnit). ltb u.sector c.args.number) _ _ c.partition_point.ensures.partitioned parted (λ a r q k. search rules) in
    λ k d h lt. ltb-false _ _ (point.1 k d h lt)
