use Rattle.intervals.proofs.Edges.{refined_leaves}
use Rattle.intervals.proofs.laws.refinements_cover.Goals as goal

pub returns : goal.returns
returns c = refined_leaves
