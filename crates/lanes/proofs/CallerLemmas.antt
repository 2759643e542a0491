-- For the crates above: an answer of this crate as a test that computes, as a definition may write it.
use Rattle.std.proofs.Common.{◌≡◌, ◌↔◌, ℕ, Bool, IsTrue, List, nat_eq, refl}
use Rattle.std.proofs.lemmas.Bool.Decides.{same_from_decides, Decides-by_and, Decides-eqb}
use Rattle.std.proofs.lemmas.Slice.Eq.{slice_eq-Decides}
use Rattle.std.specs.List.{list_all}
use Rattle.std.specs.Cmp.Lexicographic.{pointwise}
use Rattle.lanes.specs.Sector.{IsZero}

pub zero_test : (sector : List ℕ) (answer : Bool) → (IsTrue answer ↔ IsZero sector) → answer ≡ list_all (λ byte. nat_eq byte 0) sector
zero_test sector answer is =
    same_from_decides answer (list_all (λ byte. nat_eq byte 0) sector) is
    (Decides-by_and (λ byte. nat_eq byte 0) (λ byte. byte ≡ 0) (list_all (λ byte. nat_eq byte 0)) (λ byte. Decides-eqb byte 0) refl (λ _ _. refl) sector)

pub same_test : (left right : List ℕ) (answer : Bool) → (IsTrue answer ↔ (left ≡ right)) → answer ≡ pointwise nat_eq left right
same_test left right answer is =
    same_from_decides answer (pointwise nat_eq left right) is (slice_eq-Decides Decides-eqb left right (pointwise nat_eq left right) refl)
