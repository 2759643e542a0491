use Rattle.ranges.proofs.GuardedRules.{kept_proved, smaller_proved}
use Rattle.ranges.proofs.laws.guards_are_proved.Goals as goal

pub returns : goal.returns
returns c = record { kept = kept_proved; smaller = smaller_proved }
