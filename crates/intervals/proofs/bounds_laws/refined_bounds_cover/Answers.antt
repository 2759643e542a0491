use Rattle.intervals.proofs.Outcomes.{refined_has}
use Rattle.intervals.proofs.bounds_laws.refined_bounds_cover.Goals as goal

pub returns : goal.returns
returns c = refined_has
