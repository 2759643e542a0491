use Rattle.cases.proofs.Keeping.{HeldSo}
use Rattle.cases.proofs.cut.Cut.lent_of.Given as goal

abbrev pub invariant-loop-place : goal.invariant-loop-place
invariant-loop-place l = HeldSo l.fn.self l.fn.known l.fn.sets l.cut l.place
