use Rattle.epochs.proofs.Runs.{volatile_is_run}
use Rattle.epochs.proofs.laws.volatile_is_run.Goals as goal

pub returns : goal.returns
returns c = volatile_is_run
