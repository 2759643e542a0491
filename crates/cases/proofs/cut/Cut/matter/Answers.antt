use Rattle.std.proofs.Common.{refl, sym, subst, ◌≡◌, ◌∙◌, ap}
use Rattle.std.proofs.lemmas.Option.{MatchOption-at_none}
use Rattle.logfmt.specs.Bounds.{LogValue}
use Rattle.logfmt.specs.Initial.{initial_sector}
use Rattle.epochs.specs.Units.{unit_content}
use Rattle.cases.specs.Rows.{row}
use Rattle.cases.specs.Table.{IsNext}
use Rattle.cases.proofs.Below.{row_of_none}
use Rattle.cases.proofs.Mattering.{matter_ends, matter_all}
use Rattle.cases.proofs.cut.Cut.matter.Goals as goal

pub returns-then-not-risks : goal.returns-then-not-risks
returns-then-not-risks c =
    let log = c.args.self.now.log in
    matter_ends log c.args.self.now.cut c.args.unit c.in-Some.below c.args.pieces c.below.found c.below.cut c.differing-found.result c.content_of-content.result.now c.content_of.result.now
    c.below.invariant
    (subst (λ (l : LogValue). IsNext l c.below.cut c.args.unit.sector c.in-Some.below) c.log-in-below.ensures.value c.in-Some.ensures.next)
    (sym c.risks.ensures ∙ c.if-not-risks.true)
    (c.content_of-content.ensures ∙ ap (λ (l : LogValue). unit_content l.entries c.args.unit) c.log.ensures.value)
    (c.content_of.ensures ∙ ap (λ (l : LogValue). unit_content l.entries c.in-Some.below) c.log-in-Some.ensures.value)
    c.differing-found.ensures

pub returns : goal.returns
returns c =
    let log = c.args.self.now.log in
    let none : row c.log-in-below.result.now.entries c.below.cut c.args.unit.sector ≡ row c.log-in-below.result.now.entries 0 c.args.unit.sector =
    MatchOption-at_none (row c.log-in-below.result.now.entries c.below.cut c.args.unit.sector ≡ row c.log-in-below.result.now.entries 0 c.args.unit.sector) (IsNext c.log-in-below.result.now c.below.cut c.args.unit.sector) c.in_default.is c.last_over.ensures.next in
    matter_all log c.args.self.now.cut c.args.unit c.args.pieces c.below.found c.below.cut c.differing.result c.content_of-content.result.now c.sector-held.result.now
    c.below.invariant
    (sym (ap (λ (l : LogValue). row l.entries c.below.cut c.args.unit.sector) c.log-in-below.ensures.value) ∙ none ∙ row_of_none c.log-in-below.result.now.entries 0 c.args.unit.sector refl)
    (c.content_of-content.ensures ∙ ap (λ (l : LogValue). unit_content l.entries c.args.unit) c.log.ensures.value)
    (c.sector-held.ensures ∙ ap (λ held. initial_sector held c.args.unit.sector) (c.initial.ensures.value ∙ ap (λ (l : LogValue). l.initial) c.log-2.ensures.value))
    c.differing.ensures
