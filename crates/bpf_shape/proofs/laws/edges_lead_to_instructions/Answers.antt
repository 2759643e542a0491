use Rattle.bpf_shape.proofs.Whole.{edges_lead_to_instructions}
use Rattle.bpf_shape.proofs.laws.edges_lead_to_instructions.Goals as goal

pub returns : goal.returns
returns c = edges_lead_to_instructions
