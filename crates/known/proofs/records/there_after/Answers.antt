use Rattle.std.proofs.Common.{arith, ◌∙◌, ap}
use Rattle.known.specs.Linked.{count_there}
use Rattle.known.proofs.Counting.{begins_less, begins_more}
use Rattle.known.proofs.records.there_after.Goals as goal

pub returns-then-before-kept : goal.returns-then-before-kept
returns-then-before-kept g c = λ others is same.
    begins_less (g.D.Device.content c.args.device.now) c.args.kept.now.sectors.items others c.args.kept.now.shared c.args.before is same (omega arith)

pub returns-else-before-kept : goal.returns-else-before-kept
returns-else-before-kept g c = λ others is same.
    let here = ap (count_there (g.D.Device.content c.args.device.now)) c.as_slice.ensures.value in
    let more = begins_more (g.D.Device.content c.args.device.now) c.args.kept.now.sectors.items others c.args.kept.now.shared c.args.before is same (omega arith) in
    c.there_from.ensures (omega (arith, here, more)) ∙ here
