use Rattle.choices.proofs.Agreeing.{ways_agree}
use Rattle.choices.proofs.laws.ways_agree.Goals as goal

pub returns : goal.returns
returns c = ways_agree
