use Rattle.checker.proofs.Kept.{kept_is_footprint}
use Rattle.checker.proofs.laws.kept_is_the_footprint.Goals as goal

pub returns : goal.returns
returns c = kept_is_footprint
