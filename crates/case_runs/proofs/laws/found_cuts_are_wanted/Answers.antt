use Rattle.case_runs.proofs.Losing.{found_cuts_wanted}
use Rattle.case_runs.proofs.laws.found_cuts_are_wanted.Goals as goal

pub returns : goal.returns
returns c = found_cuts_wanted
