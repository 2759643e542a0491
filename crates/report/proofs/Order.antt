-- Lines in the order of their images.
use Rattle.std.proofs.Common.{ℕ, suc, ◌≡◌, ◌+◌, ◌<◌, ◌≤◌, ◌==◌, Bool, true, false, if◌then◌else◌, inl, inr, List, [], ◌∷◌, length, get_or, filter, None, Some, refl, sym, ◌∙◌, ap, arith}
use Rattle.std.proofs.lemmas.Bool.{eq-eqb}
use Rattle.std.proofs.lemmas.Bool.Decides.{eqb_tells}
use Rattle.std.specs.List.{list_any}
use Rattle.std.specs.List.Sorted.{IsNonDecreasing}
use Rattle.report.specs.Line.{FailingLine, first_lines}
use Rattle.report.specs.Images.{images_of, distinct_count, failing_images, first_image, changes_after, leading_of, leading}

abbrev AreFrom : ℕ → List FailingLine → Type 0
AreFrom v [] = Unit {0}
AreFrom v (l ∷ ls) = (v ≤ l.image) × AreFrom v ls

abbrev Rise : List FailingLine → Type 0
Rise [] = Unit {0}
Rise (l ∷ ls) = AreFrom l.image ls × Rise ls

from_each : (v : ℕ) (ls : List FailingLine) → ((i : ℕ) → i < length (images_of ls) → v ≤ get_or (images_of ls) i 0) → AreFrom v ls
from_each v [] h = tt
from_each v (l ∷ ls) h = (h 0 (omega arith), from_each v ls (λ i lt. h (suc i) (omega (arith, lt))))

rise : (ls : List FailingLine) → IsNonDecreasing (images_of ls) → Rise ls
rise [] h = tt
rise (l ∷ ls) h = (
  from_each l.image ls (λ i lt. h 0 (suc i) 0 (omega arith) (omega (arith, lt))),
  rise ls (λ i j d le lt. h (suc i) (suc j) d (omega (arith, le)) (omega (arith, lt))),
)

swapped : (a b : ℕ) (v : Bool) → (a == b) ≡ v → (b == a) ≡ v
swapped a b v e = elim (eqb_tells a b) [
  | inl same ↦ eq-eqb b a (sym same.1) ∙ sym same.0 ∙ e
  | inr other ↦ elim (eqb_tells b a) [
    | inl same ↦ absurd (other.1 (sym same.1))
    | inr none ↦ none.0 ∙ sym other.0 ∙ e
  ]
]

-- no line of a later image is of this one
none_later : (v w : ℕ) (ls : List FailingLine) → v < w → AreFrom w ls → filter (λ (m : FailingLine). m.image == v) ls ≡ []
none_later v w [] lt h = refl
none_later v w (l ∷ ls) lt h = elim (eqb_tells l.image v) [
  | inl same ↦ absurd (omega (arith, lt, h.0, same.1))
  | inr other ↦ rw other.0 (none_later v w ls lt h.1)
]

not_any : (v w : ℕ) (ls : List FailingLine) → v < w → AreFrom w ls → list_any (λ (y : ℕ). y == v) (images_of ls) ≡ false
not_any v w [] lt h = refl
not_any v w (l ∷ ls) lt h = elim (eqb_tells l.image v) [
  | inl same ↦ absurd (omega (arith, lt, h.0, same.1))
  | inr other ↦ rw other.0 (not_any v w ls lt h.1)
]

of_image : (v : ℕ) (ls : List FailingLine) → AreFrom v ls → Rise ls → filter (λ (m : FailingLine). m.image == v) ls ≡ leading_of v ls
of_image v [] from up = refl
of_image v (l ∷ ls) from up = elim (eqb_tells v l.image) [
  | inl same ↦ rw (same.0, swapped v l.image true same.0) (ap (λ (xs : List FailingLine). l ∷ xs) (of_image v ls from.1 up.1))
  | inr other ↦ rw (other.0, swapped v l.image false other.0) (none_later v l.image ls (omega (arith, from.0, other.1)) up.0)
]

pub first_are_leading : (ls : List FailingLine) → IsNonDecreasing (images_of ls) → first_lines ls ≡ leading ls
first_are_leading [] h = refl
first_are_leading (l ∷ ls) h =
    let up = rise (l ∷ ls) h in
    rw (eq-eqb l.image l.image refl) (ap (λ (xs : List FailingLine). l ∷ xs) (of_image l.image ls up.0 up.1))

one_image : (l : FailingLine) (ls : List FailingLine)
    → changes_after (Some l.image) ls + (if list_any (λ (y : ℕ). y == l.image) (images_of ls) then 1 else 0) ≡ distinct_count (images_of ls)
    → 1 + changes_after (Some l.image) ls ≡ distinct_count (images_of ls) + (if list_any (λ (y : ℕ). y == l.image) (images_of ls) then 0 else 1)
one_image l ls e =
    let by_any : (b : Bool) → changes_after (Some l.image) ls + (if b then 1 else 0) ≡ distinct_count (images_of ls)
    → 1 + changes_after (Some l.image) ls ≡ distinct_count (images_of ls) + (if b then 0 else 1) =
    λ b. elim b as (λ v. changes_after (Some l.image) ls + (if v then 1 else 0) ≡ distinct_count (images_of ls)
    → 1 + changes_after (Some l.image) ls ≡ distinct_count (images_of ls) + (if v then 0 else 1)) [ true ↦ λ k. omega (arith, k) | false ↦ λ k. omega (arith, k) ] in
    by_any (list_any (λ (y : ℕ). y == l.image) (images_of ls)) e

in_front : (a b : ℕ) → 1 + a ≡ b → 0 + a + 1 ≡ b
in_front a b e = omega (arith, e)

beyond : (a b : ℕ) → 1 + a ≡ b → 1 + a + 0 ≡ b
beyond a b e = omega (arith, e)

counted : (v : ℕ) (ls : List FailingLine) → AreFrom v ls → Rise ls
    → changes_after (Some v) ls + (if list_any (λ (y : ℕ). y == v) (images_of ls) then 1 else 0) ≡ distinct_count (images_of ls)
counted v [] from up = refl
counted v (l ∷ ls) from up = elim (eqb_tells v l.image) [
  | inl same ↦ rw (same.0, swapped v l.image true same.0) (in_front _ _ (one_image l ls (counted l.image ls up.0 up.1)))
  | inr other ↦
      rw (other.0, swapped v l.image false other.0, not_any v l.image ls (omega (arith, from.0, other.1)) up.0)
      (beyond _ _ (one_image l ls (counted l.image ls up.0 up.1)))
]

pub changes_are_images : (ls : List FailingLine) → IsNonDecreasing (images_of ls) → changes_after None ls ≡ failing_images ls
changes_are_images [] h = refl
changes_are_images (l ∷ ls) h =
    let up = rise (l ∷ ls) h in
    one_image l ls (counted l.image ls up.0 up.1)

-- the lines of the first image begin with the first line
pub first_of_first : (ls : List FailingLine) → first_image ls ≡ first_image (first_lines ls)
first_of_first [] = refl
first_of_first (l ∷ ls) = rw (eq-eqb l.image l.image refl) refl
