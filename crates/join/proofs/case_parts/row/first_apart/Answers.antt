use Rattle.std.proofs.Common.{◌-◌, ◌+◌, ◌≤◌, ◌∙◌, ap, length, arith}
use Rattle.join.specs.CaseTexts.{first_of}
use Rattle.join.specs.CaseReading.{CasesRead}
use Rattle.join.proofs.CaseRowed.{joined_on, apart_at, all_joined}
use Rattle.join.proofs.case_parts.row.first_apart.Goals as goal

pub returns-then-end-start : goal.returns-then-end-start
returns-then-end-start c =
    apart_at c.args.parts.now c.loop-place.place c.end_of-end.result c.first_of-start.result c.index-parts-place.result c.index-parts-place-in-loop-place.result c.apart.result c.loop-place.invariant c.loop-place.auto.place
    c.loop-place-test.true c.index-parts-place.is c.index-parts-place-in-loop-place.is c.end_of-end.ensures (c.first_of-start.ensures ∙ ap (λ (r : CasesRead). first_of r.head) c.right.view_is)
    (c.apart.ensures.file ∙ ap (λ (r : CasesRead). r.file) c.right.view_is) c.apart.ensures.kind

pub loop-place-preserved : goal.loop-place-preserved
loop-place-preserved c =
    joined_on c.args.parts.now c.loop-place.place c.end_of-end.result c.first_of-start.result c.index-parts-place.result c.index-parts-place-in-loop-place.result c.loop-place.invariant c.loop-place.auto.place
    c.loop-place-test.true c.index-parts-place.is c.index-parts-place-in-loop-place.is c.end_of-end.ensures (c.first_of-start.ensures ∙ ap (λ (r : CasesRead). first_of r.head) c.right.view_is) c.if-end-start.false

pub returns : goal.returns
returns c =
    let past = c.loop-place-test.false in
    let low = c.loop-place.auto.place in
    let far : length c.args.parts.now ≤ c.loop-place.place - 1 + 1 = omega (arith, past, low) in
    all_joined c.args.parts.now (c.loop-place.place - 1) far c.loop-place.invariant
