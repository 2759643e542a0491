use Rattle.losses.proofs.Walked.{ordered}
use Rattle.losses.proofs.flushes.places.places_of.Goals as goal

pub returns-clause-order : goal.returns-clause-order
returns-clause-order c =
    let long = c.in_ok-starts.ensures.long in
    ordered c.args.entries c.args.windows.now c.places_by.result c.requires.windows
    (c.places_by.ensures c.args.windows.now (rw (c.as_slice.ensures.value, long) c.requires.windows) (rw (c.as_slice.ensures.value, long) c.in_ok-starts.ensures))
