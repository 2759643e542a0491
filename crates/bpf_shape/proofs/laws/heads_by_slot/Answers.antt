use Rattle.bpf_shape.proofs.Whole.{heads_by_slot}
use Rattle.bpf_shape.proofs.laws.heads_by_slot.Goals as goal

pub returns : goal.returns
returns c = heads_by_slot
