use Rattle.std.proofs.Common.{◌≡◌, ◌<◌, ℕ}
use Rattle.std.specs.Prelude.{get_or}
use Rattle.ranges.specs.Groups.{join_group}
use Rattle.ranges.specs.SeenStates.{group_of}
use Rattle.ranges.proofs.Nothing.{no_marks}
use Rattle.ranges.proofs.knowing.contains_groups.Given as goal

abbrev pub invariant-loop-k : goal.invariant-loop-k
invariant-loop-k l = (k : ℕ) → k < l.k → group_of (get_or l.x k no_marks) ≡ join_group (group_of (get_or l.x k no_marks)) (group_of (get_or l.y k no_marks))
