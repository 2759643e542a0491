use Rattle.losses.proofs.Folds.{stands_under_one}
use Rattle.losses.proofs.groups.laws.stands_under_one.Goals as goal

pub returns : goal.returns
returns c = stands_under_one
