use Rattle.std.proofs.Common.{arith}
use Rattle.case_text.proofs.Telling.{none_past, none_before, some_before, none_at_all}
use Rattle.case_text.proofs.grouped.has_alike.Goals as goal

pub loop-left-init : goal.loop-left-init
loop-left-init c = (none_past c.args.one.now c.args.told.now, omega arith)

pub loop-left-preserved : goal.loop-left-preserved
loop-left-preserved c =
    let some = c.loop-left-test.true in
    let within = c.loop-left.invariant.1 in (
      none_before c.args.one.now c.args.told.now c.loop-left.left _ c.index-told-left.result (omega (arith, some)) within c.index-told-left.is c.if-is_alike.ensures c.loop-left.invariant.0,
      omega (arith, within),
    )

pub returns-then-is_alike : goal.returns-then-is_alike
returns-then-is_alike c =
    let some = c.loop-left-test.true in
    some_before c.args.one.now c.args.told.now c.loop-left.left _ c.index-told-left.result (omega (arith, some)) c.loop-left.invariant.1 c.index-told-left.is c.if-is_alike.ensures

pub returns : goal.returns
returns c = none_at_all c.args.one.now c.args.told.now c.loop-left.left c.loop-left-test.false c.loop-left.invariant.0
