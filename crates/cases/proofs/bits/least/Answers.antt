use Rattle.cases.proofs.Numbered.{least_first}
use Rattle.cases.proofs.bits.least.Goals as goal

pub returns-clause-first : goal.returns-clause-first
returns-clause-first c = least_first c.args.bits c.requires c.ranges.bits.fits
