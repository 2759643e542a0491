use Rattle.intervals.proofs.Outcomes.{results_fit_limits}
use Rattle.intervals.proofs.bounds_laws.bounds_of_results_fit.Goals as goal

pub returns : goal.returns
returns c = results_fit_limits c.results_fit.ensures
