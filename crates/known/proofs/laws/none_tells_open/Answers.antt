use Rattle.known.proofs.Truth.{none_tells_open}
use Rattle.known.proofs.laws.none_tells_open.Goals as goal

pub returns : goal.returns
returns c = none_tells_open
