use Rattle.bpf_isa.proofs.Unique.{one_fault}
use Rattle.bpf_isa.proofs.laws.one_fault.Goals as goal

pub returns : goal.returns
returns c = one_fault
