use Rattle.ranges.proofs.SmallerRules.{rules_mono}
use Rattle.ranges.proofs.laws.rules_are_monotone.Goals as goal

pub returns : goal.returns
returns c = rules_mono
