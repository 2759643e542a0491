use Rattle.runs.proofs.ToldFail.{told_cases_fail}
use Rattle.runs.proofs.laws.told_cases_fail.Goals as goal

pub returns : goal.returns
returns c = told_cases_fail c.their_images_fail.ensures c.found_cuts_are_wanted.ensures
