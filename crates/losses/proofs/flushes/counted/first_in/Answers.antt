use Rattle.std.proofs.Common.{ℕ, ltb, ltb-true, ltb-false, arith, rules, length, inl, inr}
use Rattle.std.proofs.lemmas.List.Sorted.{IsPartitionPoint-from_clause, IsPartitionedBy-ltb}
use Rattle.std.proofs.lemmas.Bool.Decides.{leb_tells}
use Rattle.std.proofs.lemmas.Option.{slice_get_within, get_or_from_slice_get}
use Rattle.losses.proofs.Counting.{prefix_count}
use Rattle.losses.proofs.flushes.counted.first_in.Goals as goal

pub returns-clause-within : goal.returns-clause-within
returns-clause-within c =
    let parted = IsPartitionedBy-ltb (λ (k : ℕ). k) _ c.args.window.start c.requires.order in
    let point = IsPartitionPoint-from_clause (λ (k : ℕ). ltb k c.args.window.start) _ _ c.partition_point.ensures.partitioned parted (λ a r q k. search rules) in
    let one = c.requires.one in
    let within = slice_get_within c.args.places.now one.number one.place one.there in
    elim (leb_tells (length c.args.places.now) c.partition_point.result) [
      | inl past ↦
          let end = past.1 in
          let low = ltb-true _ _ (point.0 one.number one.place (omega arith) (omega (arith, within, end))) in
          let value = get_or_from_slice_get c.args.places.now one.number one.place one.place one.there in
          let from = one.holds.from in
          absurd (omega (arith, low, value, from))
      | inr inside ↦ inside.1
    ]

pub returns-clause-value : goal.returns-clause-value
returns-clause-value c =
    let parted = IsPartitionedBy-ltb (λ (k : ℕ). k) _ c.args.window.start c.requires.order in
    let point = IsPartitionPoint-from_clause (λ (k : ℕ). ltb k c.args.window.start) _ _ c.partition_point.ensures.partitioned parted (λ a r q k. search rules) in
    prefix_count c.args.places.now c.partition_point.result c.args.window.start c.partition_point.ensures.bound
    (λ k d less. ltb-true _ _ (point.0 k d (omega arith) less)) (λ k d late within. ltb-false _ _ (point.1 k d late within))
