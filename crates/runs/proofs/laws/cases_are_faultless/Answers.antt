use Rattle.runs.proofs.ToldFail.{cases_faultless}
use Rattle.runs.proofs.laws.cases_are_faultless.Goals as goal

pub returns : goal.returns
returns c = cases_faultless c.accepted_runs_safely.ensures
