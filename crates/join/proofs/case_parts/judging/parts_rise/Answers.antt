use Rattle.std.proofs.Common.{sym, ◌∙◌, arith}
use Rattle.join.proofs.CaseJudged.{rise_on, rise_failed, rise_ended}
use Rattle.join.proofs.case_parts.judging.parts_rise.Goals as goal

pub returns-then-not-comes_after : goal.returns-then-not-comes_after
returns-then-not-comes_after c =
    sym (rise_failed c.args.parts.now c.loop-part.last c.loop-part.part-index (record { entry = 0; place = 0 }) c.loop-part.invariant (omega (arith, c.loop-part-test.true)) (sym c.comes_after.ensures ∙ c.if-not-comes_after.true))

pub loop-part-preserved : goal.loop-part-preserved
loop-part-preserved c =
    rise_on c.args.parts.now c.loop-part.last c.loop-part.part-index (record { entry = 0; place = 0 }) c.loop-part.invariant (omega (arith, c.loop-part-test.true)) (sym c.comes_after.ensures ∙ c.if-not-comes_after.false)

pub returns : goal.returns
returns c = sym (rise_ended c.args.parts.now c.loop-part.last c.loop-part.part-index c.loop-part.invariant (omega (arith, c.loop-part-test.false)))
