use Rattle.std.proofs.Common.{◌≡◌, take}
use Rattle.choices.proofs.choice.Choice.departures_owned.Given as goal

abbrev pub invariant-loop-departure : goal.invariant-loop-departure
invariant-loop-departure l = l.copy.items ≡ take l.departure-index l.departures
