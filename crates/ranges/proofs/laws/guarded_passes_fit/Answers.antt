use Rattle.ranges.proofs.GuardedPasses.{guarded_passes_fit}
use Rattle.ranges.proofs.laws.guarded_passes_fit.Goals as goal

pub returns : goal.returns
returns c = guarded_passes_fit
