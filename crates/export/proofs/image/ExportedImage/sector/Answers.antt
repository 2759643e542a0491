use Rattle.std.proofs.Common.{◌≡◌, [], Option, MatchOption, sym, subst, ◌∙◌, ap}
use Rattle.images.specs.Views.{ViewValue}
use Rattle.logfmt.specs.Initial.{initial_sector}
use Rattle.export.proofs.Unlike.{none_read, initial_read}
use Rattle.export.proofs.image.ExportedImage.sector.Goals as goal

pub returns-in-None-sector : goal.returns-in-None-sector
returns-in-None-sector c =
    let image : ViewValue = record { log = c.self.inside.log.now; cut = c.self.inside.cut; departures = c.self.inside.departures.items } in
    let P : Option ViewValue → Type 0 = λ o. MatchOption o ((image.cut ≡ 0) × (image.departures ≡ [])) (λ v. v ≡ image) in
    let shown : c.in-Some.view ≡ image = subst P c.in-Some.is c.self.invariant.shown in
    absurd (none_read c.in-Some.view c.args.self.now c.args.number (shown ∙ c.self.view_is) c.requires c.in-None-sector.ensures)

pub returns-in-None : goal.returns-in-None
returns-in-None c =
    let image : ViewValue = record { log = c.self.inside.log.now; cut = c.self.inside.cut; departures = c.self.inside.departures.items } in
    let P : Option ViewValue → Type 0 = λ o. MatchOption o ((image.cut ≡ 0) × (image.departures ≡ [])) (λ v. v ≡ image) in
    let shown : (image.cut ≡ 0) × (image.departures ≡ []) = subst P c.in-None.is c.self.invariant.shown in
    initial_read c.args.self.now c.args.number c.sector-in-None.result.now (ap (λ (v : ViewValue). v.cut) (sym c.self.view_is) ∙ shown.0)
    (ap (λ (v : ViewValue). v.departures) (sym c.self.view_is) ∙ shown.1) c.requires
    (c.sector-in-None.ensures ∙ ap (λ i. initial_sector i c.args.number) (c.initial-initial.ensures.value ∙ ap (λ (v : ViewValue). v.log.initial) c.self.view_is))
