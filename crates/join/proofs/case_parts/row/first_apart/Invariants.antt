use Rattle.std.proofs.Common.{◌-◌}
use Rattle.join.specs.CaseRows.{AreAdjoining}
use Rattle.join.proofs.case_parts.row.first_apart.Given as goal

abbrev pub invariant-loop-place : goal.invariant-loop-place
invariant-loop-place l = AreAdjoining l.parts (l.place - 1)
