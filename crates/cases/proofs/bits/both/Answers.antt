use Rattle.cases.proofs.Numbered.{both_numbers}
use Rattle.cases.proofs.bits.both.Goals as goal

pub returns : goal.returns
returns c = both_numbers c.args.bits c.args.other
