use Rattle.ranges.proofs.GuardedRules.{guarded_weaker}
use Rattle.ranges.proofs.laws.guarded_rules_are_weaker.Goals as goal

pub returns : goal.returns
returns c = guarded_weaker
