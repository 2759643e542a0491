use Rattle.std.proofs.Common.{◌≡◌, take}
use Rattle.case_text.specs.Causes.{lost_parts}
use Rattle.case_text.proofs.causes.lost_parts.Given as goal

abbrev pub invariant-loop-departure : goal.invariant-loop-departure
invariant-loop-departure l = l.parts.items ≡ lost_parts (take l.departure-index l.departures)
