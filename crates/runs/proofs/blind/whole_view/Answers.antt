use Rattle.std.proofs.Common.{◌∙◌, ap, sym, subst}
use Rattle.std.proofs.lemmas.Result.{IfOk-weaker}
use Rattle.epochs.specs.Plan.{PlanValue}
use Rattle.images.specs.Views.{IsMember, view_of, ViewValue}
use Rattle.runs.proofs.blind.whole_view.Goals as goal

pub view-requires : goal.view-requires
view-requires c = subst (λ (p : PlanValue). IsMember p c.whole_choice-choice.result) (sym c.requires.same) c.whole_choice-choice.ensures.member

pub returns-clause-log : goal.returns-clause-log
returns-clause-log c =
    IfOk-weaker c.view.result _ _ (λ view is. ap (λ (v : ViewValue). v.log) is ∙ ap (λ (p : PlanValue). p.log) c.requires.same) c.view.ensures.value

pub returns-clause-whole : goal.returns-clause-whole
returns-clause-whole c =
    IfOk-weaker c.view.result _ _
    (λ view is cut wanted. is ∙ ap (λ (p : PlanValue). view_of p c.whole_choice-choice.result) c.requires.same ∙ c.whole_choice-choice.ensures.whole cut wanted)
    c.view.ensures.value
