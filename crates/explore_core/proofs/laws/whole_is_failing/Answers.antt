use Rattle.explore_core.proofs.Whole.{whole_is_failing}
use Rattle.explore_core.proofs.laws.whole_is_failing.Goals as goal

pub returns : goal.returns
returns c = whole_is_failing
