use Rattle.ranges.proofs.SmallerStates.{passes_mono}
use Rattle.ranges.proofs.laws.passes_are_monotone.Goals as goal

pub returns : goal.returns
returns c = passes_mono
