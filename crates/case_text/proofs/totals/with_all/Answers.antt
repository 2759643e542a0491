use Rattle.std.proofs.Common.{get_or}
use Rattle.std.proofs.lemmas.List.{take_more}
use Rattle.case_text.proofs.Counting.{with_next}
use Rattle.case_text.proofs.totals.with_all.Goals as goal

pub loop-one-preserved : goal.loop-one-preserved
loop-one-preserved c =
    let one = c.one-item.result in
    with_next c.args.totals c.args.found.now c.loop-one.one-index (get_or c.args.found.now c.loop-one.one-index one) one c.loop-one.all c.with_found-all.result
    (take_more c.args.found.now c.loop-one.one-index one c.loop-one-test.true) c.one-item.is c.loop-one.invariant c.with_found-all.ensures
