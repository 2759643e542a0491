use Rattle.bpf_shape.proofs.Whole.{one_shape}
use Rattle.bpf_shape.proofs.laws.one_shape.Goals as goal

pub returns : goal.returns
returns c = one_shape
