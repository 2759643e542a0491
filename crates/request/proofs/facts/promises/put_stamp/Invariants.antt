use Rattle.request.specs.Search.{is_among, AreStamped}
use Rattle.request.proofs.facts.promises.put_stamp.Given as goal

abbrev pub invariant-loop-place : goal.invariant-loop-place
invariant-loop-place l = AreStamped (is_among l.entry.sector l.place) l.stamp l.initial.stamps l.stamps
