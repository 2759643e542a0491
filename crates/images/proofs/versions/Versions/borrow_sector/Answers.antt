use Rattle.std.proofs.Common.{length, sym, ◌∙◌, ap, arith}
use Rattle.logfmt.specs.Bounds.{LogValue}
use Rattle.logfmt.specs.Initial.{initial_sector}
use Rattle.epochs.specs.Units.{units_before}
use Rattle.images.specs.Images.{sector_after}
use Rattle.images.specs.Table.{versions, showing}
use Rattle.images.proofs.Spliced.{lent_initial, lent_whole, not_torn_initial, not_torn_whole, torn_shows, unit_showing}
use Rattle.images.proofs.versions.Versions.borrow_sector.Goals as goal

pub returns-in_default-clause-lent : goal.returns-in_default-clause-lent
returns-in_default-clause-lent c =
    c.initial_of.ensures ∙ ap (λ (l : LogValue). initial_sector l.initial c.args.number) c.self.view_is
    ∙ lent_initial c.args.self.now c.args.cut c.args.number c.args.departures.now
    (sym (c.showing.ensures ∙ ap (showing c.args.departures.now) c.before-2.ensures) ∙ c.in_default.is)

pub returns-in_default-clause-torn : goal.returns-in_default-clause-torn
returns-in_default-clause-torn c =
    not_torn_initial c.args.departures.now (versions c.args.self.now.entries c.args.cut c.args.number)
    (sym (c.showing.ensures ∙ ap (showing c.args.departures.now) c.before-2.ensures) ∙ c.in_default.is)

pub content_of-requires : goal.content_of-requires
content_of-requires c =
    let at = sym (c.showing.ensures ∙ ap (showing c.args.departures.now) c.before-2.ensures) ∙ c.in-Some.is in
    let inside = ap (λ (l : LogValue). showing c.args.departures.now (versions l.entries c.args.cut c.args.number)) c.self.view_is ∙ at in
    let long = ap (λ (l : LogValue). length l.entries) c.self.view_is in
    let cut = c.requires.cut in
    (unit_showing c.self.inside.log.now c.args.cut c.args.number c.args.departures.now _ c.self.invariant.bounds (omega (arith, long, cut)) inside).0

pub returns-in-None-clause-lent : goal.returns-in-None-clause-lent
returns-in-None-clause-lent c =
    let at = sym (c.showing.ensures ∙ ap (showing c.args.departures.now) c.before-2.ensures) ∙ c.in-Some.is in
    let inside = ap (λ (l : LogValue). showing c.args.departures.now (versions l.entries c.args.cut c.args.number)) c.self.view_is ∙ at in
    lent_whole c.self.inside.log.now c.args.cut c.args.number c.args.departures.now _ _ inside (sym c.fate_at.ensures ∙ c.in-None.is)
    c.content_of.ensures.value c.content_of.ensures.size
    ∙ ap (λ (l : LogValue). sector_after l (units_before l.entries c.args.cut) c.args.departures.now c.args.number) c.self.view_is

pub returns-in-None-clause-torn : goal.returns-in-None-clause-torn
returns-in-None-clause-torn c =
    not_torn_whole c.args.departures.now (versions c.args.self.now.entries c.args.cut c.args.number) _
    (sym (c.showing.ensures ∙ ap (showing c.args.departures.now) c.before-2.ensures) ∙ c.in-Some.is)
    (sym c.fate_at.ensures ∙ c.in-None.is)

pub returns-in-Some-fate_at-clause-torn : goal.returns-in-Some-fate_at-clause-torn
returns-in-Some-fate_at-clause-torn c =
    torn_shows c.args.departures.now (versions c.args.self.now.entries c.args.cut c.args.number) _ _
    (sym (c.showing.ensures ∙ ap (showing c.args.departures.now) c.before-2.ensures) ∙ c.in-Some.is)
    (sym c.fate_at.ensures ∙ c.in-Some-fate_at.is)
