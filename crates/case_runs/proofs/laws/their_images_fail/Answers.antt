use Rattle.case_runs.proofs.Failing.{their_images_told}
use Rattle.case_runs.proofs.laws.their_images_fail.Goals as goal

pub returns : goal.returns
returns c = their_images_told c.checkers_tell.ensures c.leaves_end_alike.ensures
