use Rattle.ranges.specs.Groups.{round_group}
use Rattle.ranges.specs.SeenStates.{group_of}
use Rattle.ranges.proofs.Nothing.{no_marks}
use Rattle.ranges.proofs.Arrays.{Joined}
use Rattle.ranges.proofs.knowing.widen_groups.Given as goal

abbrev pub invariant-loop-k : goal.invariant-loop-k
invariant-loop-k l = Joined group_of (λ y other. round_group y) l.initial.x l.initial.x l.x l.k no_marks
