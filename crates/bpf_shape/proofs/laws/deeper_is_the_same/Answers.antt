use Rattle.bpf_shape.proofs.Whole.{deeper_is_the_same}
use Rattle.bpf_shape.proofs.laws.deeper_is_the_same.Goals as goal

pub returns : goal.returns
returns c = deeper_is_the_same
