use Rattle.intervals.proofs.Outcomes.{results_cover_limits}
use Rattle.intervals.proofs.bounds_laws.bounds_of_results_cover.Goals as goal

pub returns : goal.returns
returns c = results_cover_limits c.results_cover.ensures c.results_fit.ensures
