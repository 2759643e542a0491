use Rattle.ranges.proofs.Fitting.{start_fits, start_rounded}
use Rattle.ranges.proofs.laws.start_fits.Goals as goal

pub returns : goal.returns
returns c = record { fits = start_fits; rounded = start_rounded }
