use Rattle.std.proofs.Common.{ℕ, List, ◌+◌, refl, sym, subst, ◌∙◌, arith}
use Rattle.std.specs.List.Sorted.{IsNonDecreasingBy}
use Rattle.images.specs.Keys.{ChangedValue}
use Rattle.images.specs.Changes.{whole_image, image_of, with_sector, with_sectors}
use Rattle.images.proofs.Departing.{change_here}
use Rattle.images.proofs.Listed.{changes_rise, changes_alike, other_more}
use Rattle.images.proofs.changes.put_part.Goals as goal

pub put-requires : goal.put-requires
put-requires c =
    let P : List ChangedValue → Type 0 = λ xs. IsNonDecreasingBy (λ (s : ChangedValue). s.number) xs in
    let known = c.requires.known in
    subst P (sym (c.loop-place.invariant known.0 known.1)) (changes_rise _ _ 0 c.args.view.now.log.sectors)

pub loop-place-preserved : goal.loop-place-preserved
loop-place-preserved c = λ image known.
    let view = c.args.view.now in
    let base = whole_image view.log c.args.flush in
    let new = image_of view in
    let first : ℕ = c.args.part.sector in
    let k : ℕ = c.loop-place.place in
    let s : ℕ = first + k in
    let old : ℕ → List ℕ = with_sectors image first k new in
    let device = c.requires.device in
    let below = c.loop-place-test.true in
    c.in_ok-put.ensures base old view.log.sectors (new s) (omega (arith, device, below)) (c.loop-place.invariant image known)
    (c.in_ok-change.ensures ∙ change_here base new old s)
    ∙ changes_alike base base (with_sector old s (new s)) (with_sectors image first (k + 1) new) 0 view.log.sectors
    (λ n low high. refl) (λ n low high. other_more image new first k s n refl)
