use Rattle.std.proofs.Common.{ℕ, List, ◌∙◌, sym, ap, subst}
use Rattle.std.proofs.lemmas.Result.{IfOk-weaker}
use Rattle.choices.specs.Sums.{StartsValue}
use Rattle.join.specs.GivenReading.{given_told}
use Rattle.retold.specs.Told.{HasHead, TellsPage}
use Rattle.retold.proofs.command.page_of.Goals as goal

pub page_text-requires-clause-cuts : goal.page_text-requires-clause-cuts
page_text-requires-clause-cuts c = ap (λ (s : StartsValue). s.plan.kind) (c.requires.starts ∙ c.args.basis.now.starts_are) ∙ sym c.cuts.ensures

pub page_text-requires-clause-head : goal.page_text-requires-clause-head
page_text-requires-clause-head c =
    subst (λ (line : List ℕ). HasHead line (given_told c.args.given.now)) (sym (c.as_str.ensures.value ∙ c.in_ok-line.ensures)) c.requires.head

pub returns : goal.returns
returns c =
    IfOk-weaker c.page_text.result _ _
    (λ bytes told. subst (λ (line : List ℕ). TellsPage line c.args.subject.now.starts.now (given_told c.args.given.now) bytes.items) (c.as_str.ensures.value ∙ c.in_ok-line.ensures) told) c.page_text.ensures
