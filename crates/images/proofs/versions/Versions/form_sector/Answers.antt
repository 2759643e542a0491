use Rattle.std.proofs.Common.{length, slice_get, sym, ◌∙◌, ap, arith}
use Rattle.logfmt.specs.Bounds.{LogValue}
use Rattle.epochs.specs.Units.{units_before}
use Rattle.images.specs.Images.{sector_after}
use Rattle.images.specs.Table.{versions}
use Rattle.images.proofs.Rows.{row_units}
use Rattle.images.proofs.Spliced.{sector_of_row}
use Rattle.images.proofs.versions.Versions.form_sector.Goals as goal

pub form_sector-requires-clause-units : goal.form_sector-requires-clause-units
form_sector-requires-clause-units c = λ i u there.
    let log = c.self.inside.log.now in
    let row = c.before-2.ensures ∙ ap (λ (l : LogValue). versions l.entries c.args.cut c.args.number) (sym c.self.view_is) in
    let long = ap (λ (l : LogValue). length l.entries) c.self.view_is in
    let cut = c.requires.cut in
    (row_units log c.args.cut c.args.number c.self.invariant.bounds (omega (arith, long, cut)) i u (ap (λ us. slice_get us i) (sym row) ∙ there)).0

pub form_sector-requires-clause-once : goal.form_sector-requires-clause-once
form_sector-requires-clause-once c = c.requires.once

pub returns : goal.returns
returns c =
    let log = c.self.inside.log.now in
    let row = c.before-2.ensures ∙ ap (λ (l : LogValue). versions l.entries c.args.cut c.args.number) (sym c.self.view_is) in
    let long = ap (λ (l : LogValue). length l.entries) c.self.view_is in
    let cut = c.requires.cut in
    c.form_sector.ensures
    (λ i u there. (row_units log c.args.cut c.args.number c.self.invariant.bounds (omega (arith, long, cut)) i u (ap (λ us. slice_get us i) (sym row) ∙ there)).1)
    ∙ ap (λ us. sector_after log us c.args.departures.now c.args.number) row
    ∙ sector_of_row log (units_before log.entries c.args.cut) c.args.departures.now c.args.number
    ∙ ap (λ (l : LogValue). sector_after l (units_before l.entries c.args.cut) c.args.departures.now c.args.number) c.self.view_is
