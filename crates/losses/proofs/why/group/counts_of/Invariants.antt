use Rattle.losses.proofs.GroupCounting.{AreCounts}
use Rattle.losses.proofs.why.group.counts_of.Given as goal

abbrev pub invariant-loop-place : goal.invariant-loop-place
invariant-loop-place l = AreCounts l.places l.counts.items l.place-index
