use Rattle.std.proofs.Common.{◌≡◌, ◌<◌, ℕ, length}
use Rattle.std.specs.Prelude.{get_or}
use Rattle.ranges.specs.SeenStates.{group_of}
use Rattle.ranges.proofs.Nothing.{no_marks}
use Rattle.verifier.proofs.Filled.{nothing}
use Rattle.verifier.specs.SeenUnsigned.{unsigned_group}
use Rattle.verifier.proofs.raising.raised_groups.Given as goal

abbrev pub invariant-loop-k : goal.invariant-loop-k
invariant-loop-k l = (length l.groups ≡ 64) × ((k : ℕ) → k < l.k → group_of (get_or l.groups k no_marks) ≡ unsigned_group (get_or l.x k nothing))
