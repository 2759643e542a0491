use Rattle.cases.proofs.Keeping.{LeftSo}
use Rattle.cases.proofs.cut.Cut.split_of.Given as goal

abbrev pub invariant-loop-place : goal.invariant-loop-place
invariant-loop-place l = LeftSo l.fn.self l.fn.known l.fn.sets l.wanted l.cut l.place
