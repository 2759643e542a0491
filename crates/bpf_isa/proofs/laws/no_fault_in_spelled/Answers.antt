use Rattle.bpf_isa.proofs.Unique.{no_fault}
use Rattle.bpf_isa.proofs.laws.no_fault_in_spelled.Goals as goal

pub returns : goal.returns
returns c = no_fault
