use Rattle.intervals.proofs.Digits.{rounded_mono}
use Rattle.intervals.proofs.laws.rounding_is_monotone.Goals as goal

pub returns : goal.returns
returns c = rounded_mono
