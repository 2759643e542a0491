use Rattle.machine.proofs.Longer.{at_most_one}
use Rattle.machine.proofs.laws.one_judgement.Goals as goal

pub returns : goal.returns
returns c = at_most_one
