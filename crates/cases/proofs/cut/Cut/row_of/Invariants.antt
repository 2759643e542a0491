use Rattle.cases.proofs.Keeping.{KeptSo}
use Rattle.cases.proofs.cut.Cut.row_of.Given as goal

abbrev pub invariant-row : goal.invariant-row
invariant-row l = KeptSo l.fn.self l.fn.sector l.over.items l.cut

abbrev pub decreases-row : goal.decreases-row
decreases-row l = l.cut
