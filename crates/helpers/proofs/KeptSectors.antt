-- What holds of each sector that is kept holds of each at which the run looked.
use Rattle.std.proofs.Common.{ℕ, ◌≡◌, ◌==◌, ◌||◌, nat_lt, Bool, true, false, if◌then◌else◌, List, [], ◌∷◌, ◌++◌, length, Option, Some, None, refl, sym, ap, ◌∙◌, subst, arith}
use Rattle.std.specs.Option.{option_and_then}
use Rattle.std.specs.List.{AllByRecursion}
use Rattle.std.proofs.lemmas.Bool.Decides.{nat_tests}
use Rattle.helpers.specs.Footprint.{FootprintValue, lists, sectors_with, footprint_with, footprint_after}
use Rattle.helpers.proofs.CallerLemmas.{nothing_noted}

found_in : (P : ℕ → Type 0) (numbers : List ℕ) (x : ℕ) → lists numbers x ≡ true → AllByRecursion P numbers → P x
found_in P [] x is each = absurd (let bad : false ≡ true = is in cc)
found_in P (n ∷ numbers) x is each = by (λ found. found_in P numbers x found each.1) (n == x) refl is
  where
    by : (lists numbers x ≡ true → P x) → (b : Bool) → (n == x) ≡ b → (b || lists numbers x) ≡ true → P x
    by rest true e found = subst P (let same : n ≡ x = grind (arith, nat_tests) in same) each.0
    by rest false e found = rest found

first_ones : (P : ℕ → Type 0) (xs ys : List ℕ) → AllByRecursion P (xs ++ ys) → AllByRecursion P xs
first_ones P [] ys each = tt
first_ones P (x ∷ xs) ys each = (each.0, first_ones P xs ys each.1)

last_one : (P : ℕ → Type 0) (xs : List ℕ) (x : ℕ) → AllByRecursion P (xs ++ x ∷ []) → P x
last_one P [] x each = each.0
last_one P (y ∷ xs) x each = last_one P xs x each.1

listed_has : (P : ℕ → Type 0) (room : ℕ) (numbers : List ℕ) (x : ℕ) (more : List ℕ) → sectors_with room numbers x ≡ Some more → AllByRecursion P more → P x × AllByRecursion P numbers
listed_has P room numbers x more is each = by (lists numbers x) (nat_lt (length numbers) room) refl is
  where
    by : (there fits : Bool) → lists numbers x ≡ there → (if there then Some numbers else if fits then Some (numbers ++ x ∷ []) else None) ≡ Some more → P x × AllByRecursion P numbers
    by true fits e h =
        let same : Some numbers ≡ Some more = h in
        let own : AllByRecursion P numbers = subst (AllByRecursion P) (let e : more ≡ numbers = cc in e) each in
        (found_in P numbers x e own, own)
    by false true e h =
        let same : Some (numbers ++ x ∷ []) ≡ Some more = h in
        let own : AllByRecursion P (numbers ++ x ∷ []) = subst (AllByRecursion P) (let e : more ≡ numbers ++ x ∷ [] = cc in e) each in
        (last_one P numbers x own, first_ones P numbers (x ∷ []) own)
    by false false e h = absurd (let bad : None ≡ Some more = h in cc)

noted_has : (P : ℕ → Type 0) (f : FootprintValue) (x : ℕ) (more : List ℕ) → (footprint_with f x).sectors ≡ Some more → AllByRecursion P more
    → P x × ((numbers : List ℕ) → f.sectors ≡ Some numbers → AllByRecursion P numbers)
unfolding footprint_with
noted_has P f x more is each = by f.sectors refl is
  where
    by : (kept : Option (List ℕ)) → f.sectors ≡ kept → option_and_then (λ (numbers : List ℕ). sectors_with f.room numbers x) kept ≡ Some more
        → P x × ((numbers : List ℕ) → f.sectors ≡ Some numbers → AllByRecursion P numbers)
    by None e h = absurd (let bad : None ≡ Some more = h in cc)
    by (Some own) e h =
        let has = listed_has P f.room own x more h each in
        (has.0, λ numbers e2. let same : Some own ≡ Some numbers = sym e ∙ e2 in subst (AllByRecursion P) (let is : own ≡ numbers = cc in is) has.1)

pub kept_covers : (P : ℕ → Type 0) (xs : List ℕ) (f : FootprintValue) (numbers : List ℕ) → (footprint_after f xs).sectors ≡ Some numbers → AllByRecursion P numbers
    → AllByRecursion P xs × ((before : List ℕ) → f.sectors ≡ Some before → AllByRecursion P before)
kept_covers P [] f numbers is each =
    (tt, λ before e. let same : Some numbers ≡ Some before = sym is ∙ e in subst (AllByRecursion P) (let it : numbers ≡ before = cc in it) each)
kept_covers P (x ∷ xs) f numbers is each = by (kept_covers P xs (footprint_with f x) numbers is each) (footprint_with f x).sectors refl
  where
    by : AllByRecursion P xs × ((before : List ℕ) → (footprint_with f x).sectors ≡ Some before → AllByRecursion P before)
        → (kept : Option (List ℕ)) → (footprint_with f x).sectors ≡ kept → AllByRecursion P (x ∷ xs) × ((before : List ℕ) → f.sectors ≡ Some before → AllByRecursion P before)
    by rest None e =
        let nothing : (footprint_after (footprint_with f x) xs).sectors ≡ None = ap (λ (g : FootprintValue). g.sectors) (nothing_noted (footprint_with f x) xs e) ∙ e in
        absurd (let bad : None ≡ Some numbers = sym nothing ∙ is in cc)
    by rest (Some more) e =
        let has = noted_has P f x more e (rest.1 more e) in
        ((has.0, rest.0), has.1)
