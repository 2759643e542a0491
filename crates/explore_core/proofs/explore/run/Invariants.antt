use Rattle.std.proofs.Common.{◌≡◌, drop}
use Rattle.explore_core.specs.State.{start, after_all}
use Rattle.explore_core.proofs.explore.run.Given as goal

abbrev pub invariant-loop-event : goal.invariant-loop-event
invariant-loop-event l = after_all l.explore (drop l.event-index l.events) ≡ after_all (start l.jobs l.workers l.first) l.events
