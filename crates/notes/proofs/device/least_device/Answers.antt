use Rattle.std.proofs.Common.{arith}
use Rattle.notes.proofs.Devices.{fits, next, whole}
use Rattle.notes.proofs.device.least_device.Goals as goal

pub end_of-requires : goal.end_of-requires
end_of-requires c =
    fits c.args.log.now c.entries-entry-items.result.now c.loop-entry.entry-index c.entry-item.result c.entries-entry-items.ensures.bounds c.entries-entry-items.ensures.value
    c.loop-entry-test.true c.entry-item.is

pub loop-entry-preserved : goal.loop-entry-preserved
loop-entry-preserved c =
    next c.args.log.now.entries c.entries-entry-items.result.now c.loop-entry.entry-index c.entry-item.result c.end_of.result _ _ c.entries-entry-items.ensures.value
    c.loop-entry-test.true c.entry-item.is c.end_of.ensures c.greater-least.ensures.one c.greater-least.ensures.other c.greater-least.ensures.either c.loop-entry.invariant

pub returns : goal.returns
returns c =
    whole c.args.log.now.entries c.entries-entry-items.result.now c.loop-entry.entry-index c.loop-entry.least c.entries-entry-items.ensures.value (omega arith) c.loop-entry.invariant
