use Rattle.intervals.proofs.Edges.{refined_shrinks}
use Rattle.intervals.proofs.laws.refinements_fit.Goals as goal

pub returns : goal.returns
returns c = refined_shrinks
