use Rattle.std.proofs.Common.{ℕ, ◌≡◌, List}
use Rattle.images.specs.Changes.{changes, whole_image, image_of, with_sectors}
use Rattle.images.proofs.changes.put_part.Given as goal

abbrev pub invariant-loop-place : goal.invariant-loop-place
invariant-loop-place l =
    (image : ℕ → List ℕ) → l.initial.sectors.items ≡ changes (whole_image l.view.log l.flush) image 0 l.view.log.sectors
    → l.sectors.items ≡ changes (whole_image l.view.log l.flush) (with_sectors image l.part.sector l.place (image_of l.view)) 0 l.view.log.sectors
