use Rattle.bpf_shape.proofs.Whole.{heads_are_targets}
use Rattle.bpf_shape.proofs.laws.heads_are_targets.Goals as goal

pub returns : goal.returns
returns c = heads_are_targets
