use Rattle.known.proofs.Truth.{each_is_in_one}
use Rattle.known.proofs.laws.each_is_in_one.Goals as goal

pub returns : goal.returns
returns c = each_is_in_one
