use Rattle.cases.proofs.Numbered.{without_numbers}
use Rattle.cases.proofs.bits.without.Goals as goal

pub returns : goal.returns
returns c = without_numbers c.args.bits c.args.other c.ranges.other.fits
