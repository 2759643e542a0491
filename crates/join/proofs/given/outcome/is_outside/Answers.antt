use Rattle.std.proofs.Common.{rules}
use Rattle.join.proofs.Outsides.{outside_by_status, outside_by_signal}
use Rattle.join.proofs.given.outcome.is_outside.Goals as goal

pub returns-in-Some : goal.returns-in-Some
returns-in-Some c = outside_by_status c.args.text.now c.in-Some.status.now c.is_status.result (search rules) c.in-Some.ensures c.is_status.ensures

pub returns-in-Some-beyond : goal.returns-in-Some-beyond
returns-in-Some-beyond c =
    outside_by_signal c.args.text.now c.in-Some-beyond.signal.now c.is_below.result (search rules) c.in_default.ensures c.in-Some-beyond.ensures c.is_below.ensures
