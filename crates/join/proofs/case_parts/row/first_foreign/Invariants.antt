use Rattle.join.specs.CaseRows.{AreOfRunTo}
use Rattle.join.proofs.case_parts.row.first_foreign.Given as goal

abbrev pub invariant-loop-place : goal.invariant-loop-place
invariant-loop-place l = AreOfRunTo l.parts l.place
