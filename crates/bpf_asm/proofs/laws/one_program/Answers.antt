use Rattle.bpf_asm.proofs.Programs as programs
use Rattle.bpf_asm.proofs.laws.one_program.Goals as goal

pub returns : goal.returns
returns c = programs.one_program
