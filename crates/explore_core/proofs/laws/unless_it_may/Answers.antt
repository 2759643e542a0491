use Rattle.explore_core.proofs.May.{unless_it_may}
use Rattle.explore_core.proofs.laws.unless_it_may.Goals as goal

pub returns : goal.returns
returns c = unless_it_may
