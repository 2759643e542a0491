use Rattle.bpf_shape.proofs.Whole.{no_fault_in_shaped}
use Rattle.bpf_shape.proofs.laws.no_fault_in_shaped.Goals as goal

pub returns : goal.returns
returns c = no_fault_in_shaped
