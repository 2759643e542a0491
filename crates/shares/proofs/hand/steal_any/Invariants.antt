use Rattle.std.proofs.Common.{◌≡◌, length, map, flat_map}
use Rattle.shares.specs.Owned.{OtherValue}
use Rattle.shares.proofs.hand.steal_any.Given as goal

abbrev pub invariant-loop-place : goal.invariant-loop-place
invariant-loop-place g l = (flat_map (λ (o : OtherValue). o.got) l.others.items ≡ flat_map (λ (o : OtherValue). o.got) l.initial.others.items)
    × (length l.others.items ≡ length l.initial.others.items)
    × (map (λ (o : OtherValue). o.name) l.others.items ≡ map (λ (o : OtherValue). o.name) l.initial.others.items)
