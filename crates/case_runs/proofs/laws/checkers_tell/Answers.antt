use Rattle.case_runs.proofs.Judged.{checkers_told}
use Rattle.case_runs.proofs.laws.checkers_tell.Goals as goal

pub returns : goal.returns
returns c = checkers_told c.agreeing_devices_are_judged_alike.ensures
