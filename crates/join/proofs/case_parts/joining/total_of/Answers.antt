use Rattle.std.proofs.Common.{◌≡◌, ◌∙◌, ap, arith}
use Rattle.join.specs.CaseReading.{CasesRead}
use Rattle.join.specs.CaseJoining.{both_totals}
use Rattle.join.specs.declared.case_parts.totals.CaseTotals.{CaseTotals}
use Rattle.join.proofs.CaseJoins.{item_small, totals_more, totals_whole}
use Rattle.join.proofs.case_parts.joining.total_of.Goals as goal

pub sum_of-totals-requires-clause-cuts : goal.sum_of-totals-requires-clause-cuts
sum_of-totals-requires-clause-cuts c =
    let own = (item_small c.args.parts.now c.loop-part.part-index c.part-item.result c.requires.small c.loop-part-test.true c.part-item.is).cuts in
    let same = ap (λ (r : CasesRead). r.totals.cuts) c.part.view_is in
    let before = c.loop-part.invariant.1 in
    let few = c.requires.few in
    let there = c.loop-part-test.true in
    omega (arith, own, same, before, few, there)

pub sum_of-totals-requires-clause-cases : goal.sum_of-totals-requires-clause-cases
sum_of-totals-requires-clause-cases c =
    let own = (item_small c.args.parts.now c.loop-part.part-index c.part-item.result c.requires.small c.loop-part-test.true c.part-item.is).cases in
    let same = ap (λ (r : CasesRead). r.totals.cases) c.part.view_is in
    let before = c.loop-part.invariant.2 in
    let few = c.requires.few in
    let there = c.loop-part-test.true in
    omega (arith, own, same, before, few, there)

pub sum_of-totals-requires-clause-failing : goal.sum_of-totals-requires-clause-failing
sum_of-totals-requires-clause-failing c =
    let item = item_small c.args.parts.now c.loop-part.part-index c.part-item.result c.requires.small c.loop-part-test.true c.part-item.is in
    let own = item.failing in
    let cases = item.cases in
    let same = ap (λ (r : CasesRead). r.totals.failing) c.part.view_is in
    let before = c.loop-part.invariant.3 in
    let few = c.requires.few in
    let there = c.loop-part-test.true in
    omega (arith, own, cases, same, before, few, there)

pub loop-part-preserved : goal.loop-part-preserved
loop-part-preserved c =
    let is : c.sum_of-totals.result ≡ both_totals c.loop-part.totals c.part-item.result.totals = c.sum_of-totals.ensures ∙ ap (λ (r : CasesRead). both_totals c.loop-part.totals r.totals) c.part.view_is in
    let item = item_small c.args.parts.now c.loop-part.part-index c.part-item.result c.requires.small c.loop-part-test.true c.part-item.is in
    let a = item.cuts in
    let b = item.cases in
    let d = item.failing in
    let cuts = ap (λ (t : CaseTotals). t.cuts) is in
    let cases = ap (λ (t : CaseTotals). t.cases) is in
    let failing = ap (λ (t : CaseTotals). t.failing) is in
    let before_cuts = c.loop-part.invariant.1 in
    let before_cases = c.loop-part.invariant.2 in
    let before_failing = c.loop-part.invariant.3 in (
      is ∙ totals_more c.args.parts.now c.loop-part.part-index c.part-item.result c.loop-part.totals c.loop-part.invariant.0 c.loop-part-test.true c.part-item.is,
      omega (arith, a, cuts, before_cuts),
      omega (arith, b, cases, before_cases),
      omega (arith, b, d, failing, before_failing),
    )

pub returns : goal.returns
returns c = totals_whole c.args.parts.now c.loop-part.part-index c.loop-part.totals c.loop-part.invariant.0 c.loop-part-test.false
