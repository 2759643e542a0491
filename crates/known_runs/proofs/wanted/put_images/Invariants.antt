use Rattle.known_runs.proofs.Showing.{Shows}
use Rattle.known_runs.proofs.wanted.put_images.Given as goal

abbrev pub invariant-loop-place : goal.invariant-loop-place
invariant-loop-place l = Shows (record { log = l.fn.plan.log; way = l.fn.by; views = l.fn.images }) l.fn.initial l.place l.initial.out.items l.out.items l.last l.count
