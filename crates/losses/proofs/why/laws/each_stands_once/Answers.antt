use Rattle.losses.proofs.Standing.{each_stands_once}
use Rattle.losses.proofs.why.laws.each_stands_once.Goals as goal

pub returns : goal.returns
returns c = each_stands_once
