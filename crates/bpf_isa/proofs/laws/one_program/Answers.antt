use Rattle.bpf_isa.proofs.Unique.{one_program}
use Rattle.bpf_isa.proofs.laws.one_program.Goals as goal

pub returns : goal.returns
returns c = one_program
