use Rattle.choices.proofs.Sets.{list_is_set}
use Rattle.choices.proofs.laws.list_is_set.Goals as goal

pub returns : goal.returns
returns c = list_is_set
