use Rattle.cases.proofs.Once.{tree_is_one}
use Rattle.cases.proofs.laws.tree_is_one.Goals as goal

pub returns : goal.returns
returns c = tree_is_one
