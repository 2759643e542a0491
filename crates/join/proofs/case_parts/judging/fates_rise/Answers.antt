use Rattle.std.proofs.Common.{sym, ◌∙◌, arith}
use Rattle.join.proofs.CaseJudged.{fates_on, fates_failed, fates_ended}
use Rattle.join.proofs.case_parts.judging.fates_rise.Goals as goal

pub returns-then-not-is_above : goal.returns-then-not-is_above
returns-then-not-is_above c =
    sym (fates_failed c.args.fates.now c.loop-fate.last c.loop-fate.fate-index c.fate_number-number.result c.fate-item.result c.loop-fate.invariant (omega (arith, c.loop-fate-test.true)) c.fate-item.is c.fate_number-number.ensures (sym c.is_above.ensures ∙ c.if-not-is_above.true))

pub loop-fate-preserved : goal.loop-fate-preserved
loop-fate-preserved c =
    fates_on c.args.fates.now c.loop-fate.last c.loop-fate.fate-index c.fate_number-number.result c.fate-item.result c.loop-fate.invariant (omega (arith, c.loop-fate-test.true)) c.fate-item.is c.fate_number-number.ensures (sym c.is_above.ensures ∙ c.if-not-is_above.false)

pub returns : goal.returns
returns c = sym (fates_ended c.args.fates.now c.loop-fate.last c.loop-fate.fate-index c.loop-fate.invariant (omega (arith, c.loop-fate-test.false)))
