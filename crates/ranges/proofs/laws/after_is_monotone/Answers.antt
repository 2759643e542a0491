use Rattle.ranges.proofs.SmallerStates.{after_mono}
use Rattle.ranges.proofs.laws.after_is_monotone.Goals as goal

pub returns : goal.returns
returns c = after_mono
