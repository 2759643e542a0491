use Rattle.intervals.proofs.Outcomes.{refined_fits}
use Rattle.intervals.proofs.bounds_laws.refined_bounds_fit.Goals as goal

pub returns : goal.returns
returns c = refined_fits
