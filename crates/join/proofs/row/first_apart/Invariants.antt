use Rattle.std.proofs.Common.{◌-◌}
use Rattle.join.specs.Rows.{AreJoinedTo}
use Rattle.join.proofs.row.first_apart.Given as goal

abbrev pub invariant-loop-place : goal.invariant-loop-place
invariant-loop-place l = AreJoinedTo l.parts (l.place - 1)
