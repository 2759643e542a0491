use Rattle.std.proofs.Common.{Some, slice_get, sym, ◌∙◌, ap}
use Rattle.epochs.specs.Units.{units_before}
use Rattle.images.specs.Images.{sector_after}
use Rattle.images.specs.Views.{ViewValue}
use Rattle.images.proofs.Sectors.{view_there}
use Rattle.images.proofs.view.View.form.Goals as goal

pub returns-in-Some : goal.returns-in-Some
returns-in-Some c =
    let log = c.self.inside.versions in
    view_there c.args.self.now c.args.number c.requires
    ∙ ap (λ s. Some s) (sym (c.in-Some.ensures.lent
    ∙ ap (λ ds. sector_after log (units_before log.entries c.self.inside.cut) ds c.args.number) c.as_slice.ensures.value
    ∙ ap (λ (v : ViewValue). sector_after v.log (units_before v.log.entries v.cut) v.departures c.args.number) c.self.view_is))

pub returns-in-None : goal.returns-in-None
returns-in-None c =
    let log = c.self.inside.versions in
    let at = c.torn_content.ensures in
    let there = ap (λ ts. slice_get ts at.0) (sym c.as_slice-in-None.ensures.value) ∙ at.2 in
    view_there c.args.self.now c.args.number c.requires
    ∙ ap (λ s. Some s) (sym (at.4
    ∙ c.self.invariant.owned.bytes at.0 at.1 there
    ∙ ap (sector_after log (units_before log.entries c.self.inside.cut) c.self.inside.departures.items) at.3
    ∙ ap (λ (v : ViewValue). sector_after v.log (units_before v.log.entries v.cut) v.departures c.args.number) c.self.view_is))
