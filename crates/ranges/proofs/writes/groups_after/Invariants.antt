use Rattle.std.proofs.Common.{◌≡◌, ◌<◌, ℕ, length}
use Rattle.std.specs.Prelude.{get_or}
use Rattle.ranges.specs.Changing.{group_beyond}
use Rattle.ranges.specs.SeenStates.{group_of}
use Rattle.ranges.proofs.Nothing.{no_marks}
use Rattle.ranges.proofs.writes.groups_after.Given as goal

abbrev pub invariant-loop-g : goal.invariant-loop-g
invariant-loop-g l = (length l.groups ≡ 64) × ((k : ℕ) → k < l.g → group_of (get_or l.groups k no_marks) ≡ group_beyond l.bytes.are_set l.bytes.at l.bytes.n k (group_of (get_or l.x k no_marks)))
