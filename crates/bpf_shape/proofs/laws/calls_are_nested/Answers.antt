use Rattle.bpf_shape.proofs.Whole.{calls_are_nested}
use Rattle.bpf_shape.proofs.laws.calls_are_nested.Goals as goal

pub returns : goal.returns
returns c = calls_are_nested
