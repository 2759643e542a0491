use Rattle.join.proofs.OfRuns.{join_is_run}
use Rattle.join.proofs.laws.join_is_run.Goals as goal

pub returns : goal.returns
returns c = join_is_run
