use Rattle.ranges.specs.Groups.{join_group}
use Rattle.ranges.specs.SeenStates.{group_of}
use Rattle.ranges.proofs.Nothing.{no_marks}
use Rattle.ranges.proofs.Arrays.{Joined}
use Rattle.ranges.proofs.knowing.join_groups_into.Given as goal

abbrev pub invariant-loop-k : goal.invariant-loop-k
invariant-loop-k l = Joined group_of join_group l.initial.x l.y l.x l.k no_marks
