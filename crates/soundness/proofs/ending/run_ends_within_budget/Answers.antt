use Rattle.soundness.proofs.Within.{runs_end}
use Rattle.soundness.proofs.ending.run_ends_within_budget.Goals as goal

pub returns : goal.returns
returns c = runs_end c.again_has_form.ensures
