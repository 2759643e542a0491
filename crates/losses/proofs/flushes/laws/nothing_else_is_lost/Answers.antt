use Rattle.losses.proofs.Same.{nothing_else_is_lost}
use Rattle.losses.proofs.flushes.laws.nothing_else_is_lost.Goals as goal

pub returns : goal.returns
returns c = nothing_else_is_lost
