use Rattle.cases.proofs.Splitting.{RowSo}
use Rattle.cases.proofs.cut.Cut.split_in_row.Given as goal

abbrev pub invariant-row : goal.invariant-row
invariant-row l = RowSo l.fn.self l.fn.sector l.fn.sets l.wanted l.cut

abbrev pub decreases-row : goal.decreases-row
decreases-row l = l.cut
