use Rattle.intervals.proofs.CallerLemmas.{covering}
use Rattle.intervals.proofs.laws.results_cover.Goals as goal

pub returns : goal.returns
returns c = covering
