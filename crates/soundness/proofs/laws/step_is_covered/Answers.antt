use Rattle.soundness.proofs.Tables.{step_covered}
use Rattle.soundness.proofs.laws.step_is_covered.Goals as goal

pub returns : goal.returns
returns c = step_covered
