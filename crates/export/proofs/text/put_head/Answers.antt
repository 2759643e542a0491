use Rattle.std.proofs.Common.{ℕ, ◌+◌, ◌++◌, string_bytes, List, ◌∙◌, ap, append_assoc, arith}
use Rattle.epochs.specs.Plan.{PlanValue}
use Rattle.epochs.specs.Units.{epoch_at, marks_at}
use Rattle.report.specs.ChoiceText.{departures_text}
use Rattle.export.specs.Kept.{place_text}
use Rattle.export.proofs.Told.{head_is}
use Rattle.export.proofs.text.put_head.Goals as goal

pub returns : goal.returns
returns c =
    let number : ℕ = c.from.result + c.from-2.result in
    let first : List ℕ = place_text number c.cut-cut.result c.epoch-epoch.result c.marks-marks.result in
    let rest : List ℕ = departures_text c.by-by.result c.departures-departures.result.now in
    let bs : List ℕ = string_bytes c.args.out.now in
    c.in_ok-put_departures.ensures
    ∙ ap (λ xs. xs ++ rest) c.in_ok-put_place.ensures
    ∙ append_assoc bs first rest
    ∙ ap (λ xs. bs ++ xs)
    (head_is c.args.asked.now c.args.place c.args.choice.now number c.cut-cut.result c.epoch-epoch.result c.marks-marks.result c.by-by.result c.departures-departures.result.now
    (omega (arith, c.from.ensures.value, c.from-2.ensures)) c.cut-cut.ensures
    (c.epoch-epoch.ensures.value ∙ ap (λ (p : PlanValue). epoch_at p.log.entries c.cut-cut.result) c.plan-plan.ensures.value)
    (c.marks-marks.ensures.value ∙ ap (λ (p : PlanValue). marks_at p.log.entries c.cut-cut.result) c.plan-plan.ensures.value)
    c.by-by.ensures c.departures-departures.ensures.value)
