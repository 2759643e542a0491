use Rattle.known.proofs.Truth.{found_fail}
use Rattle.known.proofs.laws.found_fail.Goals as goal

pub returns : goal.returns
returns c = found_fail c.leaves_look_alike.ensures
