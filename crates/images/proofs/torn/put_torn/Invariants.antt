use Rattle.images.proofs.Tears.{TornSoFar}
use Rattle.images.proofs.torn.put_torn.Given as goal

abbrev pub invariant-loop-departure : goal.invariant-loop-departure
invariant-loop-departure l = TornSoFar l.versions l.cut l.departures l.departure-index l.torn.items
