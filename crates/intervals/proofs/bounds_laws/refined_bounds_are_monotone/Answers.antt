use Rattle.intervals.proofs.Outcomes.{refined_mono}
use Rattle.intervals.proofs.bounds_laws.refined_bounds_are_monotone.Goals as goal

pub returns : goal.returns
returns c = refined_mono
