use Rattle.bpf_shape.proofs.Whole.{again_has_form}
use Rattle.bpf_shape.proofs.laws.again_has_form.Goals as goal

pub returns : goal.returns
returns c = again_has_form
