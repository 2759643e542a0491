use Rattle.intervals.proofs.Edges.{refined_mono}
use Rattle.intervals.proofs.laws.refinements_are_monotone.Goals as goal

pub returns : goal.returns
returns c = refined_mono
