use Rattle.known_runs.proofs.Showing.{NoneSame}
use Rattle.known_runs.proofs.wanted.first_same.Given as goal

abbrev pub invariant-loop-other : goal.invariant-loop-other
invariant-loop-other l = NoneSame (record { log = l.plan.log; way = l.fn.by; views = l.images }) l.place l.other
