use Rattle.known.proofs.Once.{found_is_one}
use Rattle.known.proofs.laws.found_is_one.Goals as goal

pub returns : goal.returns
returns c = found_is_one
