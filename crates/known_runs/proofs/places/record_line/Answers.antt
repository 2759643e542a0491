use Rattle.known_runs.proofs.Placing.{counts_begun, counts_more, counts_there, counts_past}
use Rattle.known_runs.proofs.places.record_line.Goals as goal

pub loop-at-init : goal.loop-at-init
loop-at-init c = counts_begun c.args.bytes.now c.args.place

pub returns-then-found : goal.returns-then-found
returns-then-found c =
    counts_there c.args.bytes.now c.args.place c.loop-at.at c.loop-at.before c.loop-at.line c.begins_record-begins.result c.is_that-found.result c.loop-at.invariant c.loop-at-test.true
    c.begins_record-begins.ensures c.is_that-found.ensures c.if-found.true

pub loop-at-preserved : goal.loop-at-preserved
loop-at-preserved c =
    counts_more c.args.bytes.now c.args.place c.loop-at.at c.loop-at.before c.loop-at.line c.with-before.result c.with-line.result c.begins_record-begins.result c.is_that-found.result
    c.has_byte-ends.result c.loop-at.invariant c.loop-at-test.true c.begins_record-begins.ensures c.is_that-found.ensures c.if-found.false c.has_byte-ends.ensures c.with-before.ensures
    c.with-line.ensures

pub returns : goal.returns
returns c = counts_past c.args.bytes.now c.args.place c.loop-at.at c.loop-at.before c.loop-at.line c.loop-at.invariant c.loop-at-test.false
