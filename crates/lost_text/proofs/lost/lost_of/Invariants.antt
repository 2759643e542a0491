use Rattle.lost_text.proofs.Matching.{Matched}
use Rattle.lost_text.proofs.lost.lost_of.Given as goal

abbrev pub invariant-loop-part : goal.invariant-loop-part
invariant-loop-part l = Matched l.parts l.names l.part-index l.sets.items l.departures.items l.left
