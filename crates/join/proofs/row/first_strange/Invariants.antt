use Rattle.join.specs.Rows.{AreAlikeTo}
use Rattle.join.proofs.row.first_strange.Given as goal

abbrev pub invariant-loop-place : goal.invariant-loop-place
invariant-loop-place l = AreAlikeTo l.parts l.place
