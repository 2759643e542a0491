use Rattle.ranges.proofs.GuardedPasses.{guarded_passes_mono}
use Rattle.ranges.proofs.laws.guarded_passes_are_monotone.Goals as goal

pub returns : goal.returns
returns c = guarded_passes_mono
