use Rattle.std.proofs.Common.{sym, ◌∙◌, ap, Option, arith}
use Rattle.choices.specs.declared.fate.Fate.{Fate}
use Rattle.join.specs.CaseReading.{mixed_value}
use Rattle.join.specs.CaseWalks.{is_first_of}
use Rattle.join.proofs.CaseWalked.{begin_on, other_begins}
use Rattle.join.proofs.case_parts.judging.all_begin.Goals as goal

pub returns-then-not-is_first_of : goal.returns-then-not-is_first_of
returns-then-not-is_first_of c =
    let small = c.loop-one-test.true in
    sym (other_begins mixed_value c.args.lost.now c.loop-one.left.now c.from_lost-left.result.now c.args.mixed.now c.loop-one.one-index c.one-item.result c.loop-one.invariant (omega (arith, small)) c.one-item.is c.from_lost-left.ensures
    (ap (λ (f : Option Fate). is_first_of f (mixed_value c.one-item.result)) (sym c.first_fate.ensures) ∙ sym c.is_first_of.ensures ∙ c.if-not-is_first_of.true))

pub loop-one-preserved : goal.loop-one-preserved
loop-one-preserved c =
    let small = c.loop-one-test.true in
    begin_on mixed_value c.args.lost.now c.loop-one.left.now c.from_lost-left.result.now c.args.mixed.now c.loop-one.one-index c.one-item.result c.loop-one.invariant (omega (arith, small)) c.one-item.is c.from_lost-left.ensures
    (ap (λ (f : Option Fate). is_first_of f (mixed_value c.one-item.result)) (sym c.first_fate.ensures) ∙ sym c.is_first_of.ensures ∙ c.if-not-is_first_of.false)
