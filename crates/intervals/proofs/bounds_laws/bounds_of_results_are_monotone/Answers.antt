use Rattle.intervals.proofs.Outcomes.{results_mono_limits}
use Rattle.intervals.proofs.bounds_laws.bounds_of_results_are_monotone.Goals as goal

pub returns : goal.returns
returns c = results_mono_limits c.results_are_monotone.ensures c.results_fit.ensures
