use Rattle.std.proofs.Common.{◌≡◌, map, take}
use Rattle.epochs.specs.Parts.{volatile_parts}
use Rattle.choices.specs.Choices.{departure_of}
use Rattle.choices.proofs.choice.departures_of.Given as goal

abbrev pub invariant-loop-pick : goal.invariant-loop-pick
invariant-loop-pick l = l.departures.items ≡ map (departure_of (volatile_parts l.plan.by l.plan.log.entries l.cut)) (take l.pick-index l.picks)
