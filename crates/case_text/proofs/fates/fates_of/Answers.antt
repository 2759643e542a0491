use Rattle.std.proofs.Common.{◌≡◌, arith}
use Rattle.case_text.proofs.Listed.{fates_more, fates_all}
use Rattle.case_text.proofs.fates.fates_of.Goals as goal

pub loop-number-preserved : goal.loop-number-preserved
loop-number-preserved c = fates_more c.args.set c.loop-number.number c.loop-number.fates.items c.push_fate.new.fates.items c.loop-number.invariant c.push_fate.ensures

pub returns : goal.returns
returns c =
    let low = c.loop-number.auto.number-end in
    let high = c.loop-number-test.false in
    fates_all c.args.set c.loop-number.number c.loop-number.fates.items (let e : c.loop-number.number ≡ 16 = omega (arith, low, high) in e) c.loop-number.invariant
