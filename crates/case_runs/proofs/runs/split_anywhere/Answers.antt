use Rattle.std.proofs.Common.{◌<◌, arith}
use Rattle.case_runs.proofs.Running.{split_found, split_more, split_none}
use Rattle.case_runs.proofs.runs.split_anywhere.Goals as goal

pub returns-in-Some : goal.returns-in-Some
returns-in-Some c = λ tears.
    let less : c.loop-sector.sector < c.args.count = c.loop-sector-test.true in
    split_found (record { at = c.args.cut.now; tears = tears; sets = c.args.sets.now }) c.loop-sector.sector c.args.count c.in-Some.found less (c.loop-sector.invariant tears) (c.in-Some.ensures tears)

pub loop-sector-preserved : goal.loop-sector-preserved
loop-sector-preserved c = λ tears. split_more (record { at = c.args.cut.now; tears = tears; sets = c.args.sets.now }) c.loop-sector.sector (c.loop-sector.invariant tears) (c.in_default.ensures tears)

pub returns : goal.returns
returns c = λ tears.
    let low = c.loop-sector.auto.sector-end in
    let high = c.loop-sector-test.false in
    split_none (record { at = c.args.cut.now; tears = tears; sets = c.args.sets.now }) c.loop-sector.sector c.args.count (omega (arith, low)) (omega (arith, high)) (c.loop-sector.invariant tears)
