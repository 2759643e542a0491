use Rattle.cases.proofs.Forming.{FormSo}
use Rattle.cases.proofs.cut.Cut.sector.Given as goal

abbrev pub invariant-row : goal.invariant-row
invariant-row l = FormSo l.fn.self l.fn.number l.fn.sets l.missing l.cut l.sector

abbrev pub decreases-row : goal.decreases-row
decreases-row l = l.cut
