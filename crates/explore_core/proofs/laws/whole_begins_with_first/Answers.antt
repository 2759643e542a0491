use Rattle.explore_core.proofs.Whole.{whole_begins}
use Rattle.explore_core.proofs.laws.whole_begins_with_first.Goals as goal

pub returns : goal.returns
returns c = whole_begins
