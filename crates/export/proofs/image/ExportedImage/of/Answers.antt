use Rattle.std.proofs.Common.{ℕ, List, length, sym, subst, ap, ◌∙◌, arith}
use Rattle.logfmt.specs.Bounds.{LogValue, IsLog}
use Rattle.choices.specs.declared.choice.Departure.{Departure}
use Rattle.images.specs.Table.{AreParts}
use Rattle.images.specs.Views.{ViewValue}
use Rattle.images.proofs.Members.{member_cut, member_parts}
use Rattle.export.proofs.image.ExportedImage.of.Goals as goal

pub invariant_of-result : goal.invariant_of-result
invariant_of-result c =
    let bounds : IsLog c.args.history.now.log = subst (λ (l : LogValue). IsLog l) (sym c.requires.log) c.sectors-sectors.ensures.bounds in
    let cut = member_cut _ _ c.requires.member in
    let long = ap (λ (l : LogValue). length l.entries) c.requires.log in
    let parts : AreParts c.args.history.now.log c.args.choice.now.departures = member_parts c.args.history.now c.args.choice.now bounds c.requires.member in
    let owned = subst (λ (ds : List Departure). AreParts c.args.history.now.log ds) (sym c.departures_owned.ensures) parts in
    let image : LogValue → ℕ → List Departure → ViewValue = λ l n ds. record { log = l; cut = n; departures = ds } in
    record {
      bounds = c.sectors-sectors.ensures.bounds;
      within = omega (arith, cut, c.cut.ensures, long);
      departs = subst (λ (l : LogValue). AreParts l c.departures_owned.result.items) c.requires.log owned;
      shown = c.in_ok-view.ensures.value ∙ (λ i. image (c.requires.log i) (sym c.cut.ensures i) (sym c.departures_owned.ensures i));
    }
