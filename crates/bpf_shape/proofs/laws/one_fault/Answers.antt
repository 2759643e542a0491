use Rattle.bpf_shape.proofs.Whole.{one_fault}
use Rattle.bpf_shape.proofs.laws.one_fault.Goals as goal

pub returns : goal.returns
returns c = one_fault
