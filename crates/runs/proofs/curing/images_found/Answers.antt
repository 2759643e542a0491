use Rattle.std.proofs.Common.{false, refl}
use Rattle.runs.proofs.Explained.{starts_made}
use Rattle.runs.proofs.Findings.{found_of}
use Rattle.runs.proofs.curing.images_found.Goals as goal

pub input_of-input-requires-clause-starts : goal.input_of-input-requires-clause-starts
input_of-input-requires-clause-starts g c =
    let task = c.args.task.now in
    starts_made task.options.now task.log.now task.plan.now c.bound-bound.result c.tears-tears.result _ task.plan_is c.bound-bound.ensures.value c.tears-tears.ensures c.in-Ok-new.ensures

pub input_of-input-requires-clause-history : goal.input_of-input-requires-clause-history
input_of-input-requires-clause-history g c = c.in-Ok.ensures

pub found_by-requires-clause-starts : goal.found_by-requires-clause-starts
found_by-requires-clause-starts g c =
    let task = c.args.task.now in
    starts_made task.options.now task.log.now task.plan.now c.bound-bound.result c.tears-tears.result _ task.plan_is c.bound-bound.ensures.value c.tears-tears.ensures c.in-Ok-new.ensures

pub found_by-requires-clause-lines : goal.found_by-requires-clause-lines
found_by-requires-clause-lines g c =
    let found = found_of c.args.task.now false c.input_of-input.result c.in_ok-work.work.lines c.input_of-input.ensures c.in_ok-work.ensures.whole c.in_ok-work.ensures.first in
    found.whole refl
