use Rattle.case_runs.proofs.Once.{finding_is_one}
use Rattle.case_runs.proofs.laws.finding_is_one.Goals as goal

pub returns : goal.returns
returns c = finding_is_one c.tree_is_one.ensures
