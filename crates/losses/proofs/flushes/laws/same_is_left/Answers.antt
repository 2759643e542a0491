use Rattle.losses.proofs.Same.{same_is_left}
use Rattle.losses.proofs.flushes.laws.same_is_left.Goals as goal

pub returns : goal.returns
returns c = same_is_left
