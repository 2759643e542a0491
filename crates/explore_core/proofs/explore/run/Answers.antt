use Rattle.std.proofs.Common.{◌≤◌, length, drop_of_length-le, arith}
use Rattle.explore_core.proofs.Sound.{every_run}
use Rattle.explore_core.proofs.explore.run.Goals as goal

pub returns-clause-sound : goal.returns-clause-sound
returns-clause-sound c =
    let all : length c.args.events.now ≤ c.loop-event.event-index = omega (arith, c.loop-event-test.false) in
    let none = drop_of_length-le c.args.events.now all in
    rw (rw none at c.loop-event.invariant) (every_run c.args.jobs.now c.args.workers c.args.first c.args.events.now c.are_jobs.ensures)
