use Rattle.std.proofs.Common.{◌≡◌, take}
use Rattle.case_text.specs.Causes.{torn_parts}
use Rattle.case_text.proofs.causes.torn_parts.Given as goal

abbrev pub invariant-loop-departure : goal.invariant-loop-departure
invariant-loop-departure l = l.parts.items ≡ torn_parts (take l.departure-index l.departures)
