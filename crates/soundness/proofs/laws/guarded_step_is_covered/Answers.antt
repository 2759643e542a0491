use Rattle.soundness.proofs.LooseSteps.{guarded_step_covered}
use Rattle.soundness.proofs.laws.guarded_step_is_covered.Goals as goal

pub returns : goal.returns
returns c = guarded_step_covered
