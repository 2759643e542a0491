use Rattle.intervals.proofs.CallerLemmas.{monotone}
use Rattle.intervals.proofs.laws.results_are_monotone.Goals as goal

pub returns : goal.returns
returns c = monotone
