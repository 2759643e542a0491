use Rattle.std.proofs.Common.{◌≡◌, ◌<◌, ℕ}
use Rattle.std.specs.Prelude.{get_or}
use Rattle.ranges.specs.Kinds.{join}
use Rattle.ranges.specs.Seen.{kind_of}
use Rattle.ranges.specs.declared.value.Value.TheVariants as value
use Rattle.ranges.proofs.knowing.contains_values.Given as goal

abbrev pub invariant-loop-k : goal.invariant-loop-k
invariant-loop-k l = (k : ℕ) → k < l.k → kind_of (get_or l.x k value.Unset) ≡ join (kind_of (get_or l.x k value.Unset)) (kind_of (get_or l.y k value.Unset))
