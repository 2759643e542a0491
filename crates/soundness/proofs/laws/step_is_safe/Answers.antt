use Rattle.soundness.proofs.Tables.{step_safe}
use Rattle.soundness.proofs.laws.step_is_safe.Goals as goal

pub returns : goal.returns
returns c = step_safe
