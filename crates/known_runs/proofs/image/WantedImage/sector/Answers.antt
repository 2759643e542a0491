use Rattle.std.proofs.Common.{ℕ, List, ◌≡◌, Some, slice_get, subst}
use Rattle.cases.specs.AtCut.{parts_of, case_of, image_of}
use Rattle.images.specs.Views.{ViewValue, sectors_of}
use Rattle.known_runs.proofs.Imaging.{sector_shown}
use Rattle.known_runs.proofs.image.WantedImage.sector.Goals as goal

pub returns : goal.returns
returns c =
    let s = c.self.inside in
    subst (λ (v : ViewValue). slice_get (sectors_of v) c.args.number ≡ Some c.sector.result) c.self.view_is
    (sector_shown s.log.now s.cut s.tears s.sets.items s.departures.items c.args.number c.sector.result c.self.invariant
    (subst (λ (xs : List ℕ). slice_get (image_of s.cut (case_of s.tears (parts_of s.cut) xs)) c.args.number ≡ Some c.sector.result) c.as_slice.ensures.value (c.sector.ensures s.tears)))
