use Rattle.known_text.proofs.MarksCounted.{marks_counted}
use Rattle.known_text.proofs.marks.marks_of.Goals as goal

pub loop-entry-preserved : goal.loop-entry-preserved
loop-entry-preserved c =
    marks_counted c.args.entries.now c.loop-entry.entry-index c.loop-entry.count c.with-count.result c.loop-entry.marks.items _ c.entry-item.result c.loop-entry.invariant
    c.loop-entry-test.true c.entry-item.is c.with-count.ensures c.in_ok-push-2.ensures.items
