use Rattle.std.proofs.Common.{◌∙◌, ap, get_or, refl, arith}
use Rattle.std.proofs.lemmas.List.{take_more}
use Rattle.case_text.specs.declared.totals.Totals.{Totals}
use Rattle.case_text.specs.Counts.{with_all}
use Rattle.case_text.proofs.Counting.{no_sums, totals_next, totals_all, are_totals}
use Rattle.case_text.proofs.totals.totals_of.Goals as goal

pub loop-cut-init : goal.loop-cut-init
loop-cut-init c =
    let none : Totals = record { cases = 0; failing = 0; torn_beyond = 0; lost_beyond = 0 } in
    no_sums none refl refl refl refl

pub loop-cut-preserved : goal.loop-cut-preserved
loop-cut-preserved c =
    let cut = c.cut-item.result in
    totals_next c.args.found.now c.loop-cut.cut-index (get_or c.args.found.now c.loop-cut.cut-index cut) cut c.loop-cut.all c.with_all-all.result
    (take_more c.args.found.now c.loop-cut.cut-index cut c.loop-cut-test.true) c.cut-item.is c.loop-cut.invariant (c.with_all-all.ensures ∙ ap (with_all c.loop-cut.all) c.as_slice.ensures.value)

pub returns-clause-cases : goal.returns-clause-cases
returns-clause-cases c =
    let high = c.loop-cut-test.false in
    (are_totals c.args.found.now c.loop-cut.all (totals_all c.args.found.now c.loop-cut.cut-index c.loop-cut.all (omega (arith, high)) c.loop-cut.invariant)).cases

pub returns-clause-failing : goal.returns-clause-failing
returns-clause-failing c =
    let high = c.loop-cut-test.false in
    (are_totals c.args.found.now c.loop-cut.all (totals_all c.args.found.now c.loop-cut.cut-index c.loop-cut.all (omega (arith, high)) c.loop-cut.invariant)).failing

pub returns-clause-torn : goal.returns-clause-torn
returns-clause-torn c =
    let high = c.loop-cut-test.false in
    (are_totals c.args.found.now c.loop-cut.all (totals_all c.args.found.now c.loop-cut.cut-index c.loop-cut.all (omega (arith, high)) c.loop-cut.invariant)).torn

pub returns-clause-lost : goal.returns-clause-lost
returns-clause-lost c =
    let high = c.loop-cut-test.false in
    (are_totals c.args.found.now c.loop-cut.all (totals_all c.args.found.now c.loop-cut.cut-index c.loop-cut.all (omega (arith, high)) c.loop-cut.invariant)).lost
