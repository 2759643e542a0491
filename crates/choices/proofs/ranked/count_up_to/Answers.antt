use Rattle.std.proofs.Common.{sym, arith}
use Rattle.choices.proofs.Plans.{before_none, counted, first_past, counted_all}
use Rattle.choices.proofs.ranked.count_up_to.Goals as goal

pub loop-cut-init : goal.loop-cut-init
loop-cut-init c = (sym (before_none _ _ _), omega arith)

pub returns-then-own-left-clause-past : goal.returns-then-own-left-clause-past
returns-then-own-left-clause-past c =
    let so = c.loop-cut.invariant in
    first_past _ _ _ _ _ _ _ _ c.cuts-cut-items.ensures.value c.loop-cut-test.true so.0 c.ways_at-own.ensures.value so.1 (omega (arith, c.if-own-left.true, c.from-left.ensures))

pub loop-cut-preserved : goal.loop-cut-preserved
loop-cut-preserved c =
    let so = c.loop-cut.invariant in
    (counted _ _ _ _ _ _ _ c.cuts-cut-items.ensures.value c.loop-cut-test.true so.0 c.ways_at-own.ensures.value, omega (arith, so.1, c.if-own-left.false, c.from-left.ensures))

pub returns-clause-value : goal.returns-clause-value
returns-clause-value c = counted_all _ _ _ _ _ _ c.cuts-cut-items.ensures.value c.loop-cut-test.false c.loop-cut.invariant.0
