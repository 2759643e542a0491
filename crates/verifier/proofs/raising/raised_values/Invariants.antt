use Rattle.std.proofs.Common.{◌≡◌, ◌<◌, ℕ, length}
use Rattle.std.specs.Prelude.{get_or}
use Rattle.ranges.specs.Seen.{kind_of}
use Rattle.ranges.specs.declared.value.Value.TheVariants as value
use Rattle.verifier.specs.declared.unsigned_state.UnsignedValue.TheVariants as unsigned
use Rattle.verifier.specs.SeenUnsigned.{unsigned_kind}
use Rattle.verifier.proofs.raising.raised_values.Given as goal

abbrev pub invariant-loop-k : goal.invariant-loop-k
invariant-loop-k l = (length l.values ≡ 11) × ((k : ℕ) → k < l.k → kind_of (get_or l.values k value.Unset) ≡ unsigned_kind (get_or l.x k unsigned.Unset))
