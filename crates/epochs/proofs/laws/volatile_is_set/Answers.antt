use Rattle.epochs.proofs.Sets.{volatile_is_set}
use Rattle.epochs.proofs.laws.volatile_is_set.Goals as goal

pub returns : goal.returns
returns c = volatile_is_set
