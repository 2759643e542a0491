use Rattle.case_runs.proofs.Losing.{losses_found}
use Rattle.case_runs.proofs.laws.losses_are_found.Goals as goal

pub returns : goal.returns
returns c = losses_found c.checkers_tell.ensures c.each_is_in_one.ensures c.leaves_end_alike.ensures c.last_cuts_have_all.ensures
