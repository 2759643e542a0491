use Rattle.ranges.proofs.Smaller.{edge_mono}
use Rattle.ranges.proofs.laws.edges_are_monotone.Goals as goal

pub returns : goal.returns
returns c = edge_mono
