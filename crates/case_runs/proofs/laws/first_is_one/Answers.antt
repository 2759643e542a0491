use Rattle.case_runs.proofs.FirstOnce.{first_is_one}
use Rattle.case_runs.proofs.laws.first_is_one.Goals as goal

pub returns : goal.returns
returns c = first_is_one c.tree_is_one.ensures
