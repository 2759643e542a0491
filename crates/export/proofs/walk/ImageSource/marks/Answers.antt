use Rattle.std.proofs.Common.{length, ◌∙◌, ap, arith}
use Rattle.epochs.specs.Plan.{PlanValue}
use Rattle.export.specs.Export.{AskedValue}
use Rattle.export.proofs.Walking.{cut_of, marks_are}
use Rattle.export.proofs.walk.ImageSource.marks.Goals as goal

pub marks-requires : goal.marks-requires
marks-requires c =
    let within = cut_of c.args.self.now c.args.place c.args.choice.now c.requires in
    let plan = c.plan.ensures.value ∙ ap (λ (a : AskedValue). a.plan) c.self.view_is in
    omega (arith, within, c.cut.ensures, ap (λ (p : PlanValue). length p.log.entries) plan)

pub returns : goal.returns
returns c =
    marks_are c.args.self.now c.args.place c.args.choice.now c.plan.result.now c.cut.result c.marks.result c.requires
    (c.plan.ensures.value ∙ ap (λ (a : AskedValue). a.plan) c.self.view_is) c.cut.ensures c.marks.ensures.value
