use Rattle.cases.proofs.Lending.{FromBelow}
use Rattle.cases.proofs.cut.Cut.lent.Given as goal

abbrev pub invariant-row : goal.invariant-row
invariant-row l = FromBelow l.fn.self l.fn.number l.fn.sets l.cut

abbrev pub decreases-row : goal.decreases-row
decreases-row l = l.cut
