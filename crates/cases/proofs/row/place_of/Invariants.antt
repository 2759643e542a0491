use Rattle.std.proofs.Common.{drop}
use Rattle.cases.specs.Laws.{IsAmong}
use Rattle.cases.proofs.row.place_of.Given as goal

abbrev pub invariant-loop-place : goal.invariant-loop-place
invariant-loop-place l = IsAmong (drop l.place l.parts) l.fn.part
