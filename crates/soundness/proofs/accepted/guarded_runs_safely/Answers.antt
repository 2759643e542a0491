use Rattle.soundness.proofs.LooseRuns.{guarded_runs}
use Rattle.soundness.proofs.accepted.guarded_runs_safely.Goals as goal

pub returns : goal.returns
returns c = guarded_runs c.again_has_form.ensures
