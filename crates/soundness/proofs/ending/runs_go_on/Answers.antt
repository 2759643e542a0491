use Rattle.soundness.proofs.Going.{runs_go_on}
use Rattle.soundness.proofs.ending.runs_go_on.Goals as goal

pub returns : goal.returns
returns c = runs_go_on
