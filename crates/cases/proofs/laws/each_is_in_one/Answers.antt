use Rattle.cases.proofs.Cases.{each_is_in_one}
use Rattle.cases.proofs.laws.each_is_in_one.Goals as goal

pub returns : goal.returns
returns c = each_is_in_one
