use Rattle.bpf_shape.proofs.Whole.{entries_are_instructions}
use Rattle.bpf_shape.proofs.laws.entries_are_instructions.Goals as goal

pub returns : goal.returns
returns c = entries_are_instructions
