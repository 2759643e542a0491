use Rattle.bpf_shape.proofs.Whole.{edges_are_split}
use Rattle.bpf_shape.proofs.laws.edges_are_split.Goals as goal

pub returns : goal.returns
returns c = edges_are_split
