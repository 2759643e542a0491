use Rattle.bpf_shape.proofs.Kept.{shaped_with_guards}
use Rattle.bpf_shape.proofs.laws.shaped_with_guards.Goals as goal

pub returns : goal.returns
returns c = shaped_with_guards
