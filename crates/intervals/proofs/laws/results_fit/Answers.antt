use Rattle.intervals.proofs.CallerLemmas.{fitting}
use Rattle.intervals.proofs.laws.results_fit.Goals as goal

pub returns : goal.returns
returns c = fitting
