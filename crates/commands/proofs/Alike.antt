-- Lists whose elements are alike, place by place.
use Rattle.std.proofs.Common.{ℕ, suc, ◌≡◌, List, [], ◌∷◌, ◌++◌, length, Some, slice_get, refl, arith}
use Rattle.std.specs.List.{flat_map}

abbrev pub AreAlike : {X : Type 0} → (X → X → Type 0) → List X → List X → Type 0
AreAlike R [] [] = Unit {0}
AreAlike R [] (y ∷ ys) = ⊥
AreAlike R (x ∷ xs) [] = ⊥
AreAlike R (x ∷ xs) (y ∷ ys) = R x y × AreAlike R xs ys

-- lists of one length, with elements that are alike at each place
pub alike : {X : Type 0} (R : X → X → Type 0) (xs ys : List X) → length xs ≡ length ys
    → ((i : ℕ) (x y : X) → slice_get xs i ≡ Some x → slice_get ys i ≡ Some y → R x y) → AreAlike R xs ys
alike R [] [] long each = record {}
alike R [] (y ∷ ys) long each = absurd (let bad : 0 ≡ suc (length ys) = long in omega (arith, bad))
alike R (x ∷ xs) [] long each = absurd (let bad : suc (length xs) ≡ 0 = long in omega (arith, bad))
alike R (x ∷ xs) (y ∷ ys) long each =
    let more : suc (length xs) ≡ suc (length ys) = long in
    (each 0 x y refl refl, alike R xs ys (omega (arith, more)) (λ i. each (suc i)))

-- elements that are the same make the same list
pub same_list : {X : Type 0} (xs ys : List X) → AreAlike (λ (x y : X). x ≡ y) xs ys → xs ≡ ys
same_list [] [] h = refl
same_list [] (y ∷ ys) h = absurd h
same_list (x ∷ xs) [] h = absurd h
same_list (x ∷ xs) (y ∷ ys) h =
    let first : x ≡ y = h.0 in
    let rest = same_list xs ys h.1 in
    λ i. first i ∷ rest i

-- a text made of elements that are alike
pub same_text : {X : Type 0} (R : X → X → Type 0) (f : X → List ℕ) → ((x y : X) → R x y → f x ≡ f y) → (xs ys : List X) → AreAlike R xs ys
    → flat_map f xs ≡ flat_map f ys
same_text R f one [] [] h = refl
same_text R f one [] (y ∷ ys) h = absurd h
same_text R f one (x ∷ xs) [] h = absurd h
same_text R f one (x ∷ xs) (y ∷ ys) h =
    let first = one x y h.0 in
    let rest = same_text R f one xs ys h.1 in
    λ i. first i ++ rest i
