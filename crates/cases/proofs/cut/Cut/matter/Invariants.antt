use Rattle.cases.proofs.Mattering.{MatterSo}
use Rattle.cases.proofs.cut.Cut.matter.Given as goal

abbrev pub invariant-below : goal.invariant-below
invariant-below l = MatterSo l.fn.self.log l.fn.self.cut l.fn.unit l.fn.pieces l.found l.cut

abbrev pub decreases-below : goal.decreases-below
decreases-below l = l.cut
