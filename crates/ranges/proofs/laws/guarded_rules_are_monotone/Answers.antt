use Rattle.ranges.proofs.GuardedRules.{guarded_mono}
use Rattle.ranges.proofs.laws.guarded_rules_are_monotone.Goals as goal

pub returns : goal.returns
returns c = guarded_mono
