-- What a log lacks of the entries and cuts that are named.
use Rattle.std.proofs.Common.{ℕ, zero, suc, ◌≡◌, ◌<◌, Bool, true, false, cond, List, [], ◌∷◌, ◌++◌, length, filter, slice_get, Option, None, Some, refl, ◌∙◌, ap, arith}
use Rattle.std.specs.Prelude.{nat_le}
use Rattle.std.specs.List.{slice_index_or}
use Rattle.std.proofs.lemmas.Bool.Decides.{nat_tests}
use Rattle.epochs.specs.declared.cuts.Cuts.{Cuts}
use Rattle.epochs.specs.Flushes.{places_of}
use Rattle.request.specs.Source.{cut_past, either, lacking}

first_of_both : (xs ys : List ℕ) → either (slice_get xs 0) (slice_get ys 0) ≡ slice_get (xs ++ ys) 0
first_of_both [] ys = refl
first_of_both (x ∷ xs) ys = refl

-- the first that is lacking
pub first_of : (cuts : Cuts) (n : ℕ) (entries : List ℕ) (e f l found : Option ℕ) → entries ≡ places_of cuts.flushes → e ≡ slice_get (filter (λ entry. nat_le n entry) entries) 0
    → f ≡ slice_get (cut_past n cuts.from) 0 → l ≡ slice_get (cut_past n cuts.to) 0 → found ≡ either e (either f l) → found ≡ slice_get (lacking cuts n) 0
unfolding lacking
first_of cuts n entries e f l found are he hf hl is =
    let past : List ℕ = filter (λ entry. nat_le n entry) (places_of cuts.flushes) in
    let entry : e ≡ slice_get past 0 = he ∙ ap (λ xs. slice_get (filter (λ entry. nat_le n entry) xs) 0) are in
    let cut : either f l ≡ slice_get (cut_past n cuts.from ++ cut_past n cuts.to) 0 = ap (λ o. either o l) hf ∙ ap (either (slice_get (cut_past n cuts.from) 0)) hl ∙ first_of_both (cut_past n cuts.from) (cut_past n cuts.to) in
    is ∙ ap (λ o. either o (either f l)) entry ∙ ap (either (slice_get past 0)) cut ∙ first_of_both past (cut_past n cuts.from ++ cut_past n cuts.to)

empty : (xs : List ℕ) → slice_get xs 0 ≡ None → xs ≡ []
empty [] h = refl
empty (x ∷ xs) h = absurd (let bad : Some x ≡ None = h in cc)

-- where no first is lacking, none is
pub none_lacks : (cuts : Cuts) (n : ℕ) → slice_get (lacking cuts n) 0 ≡ None → lacking cuts n ≡ []
none_lacks cuts n h = empty (lacking cuts n) h

front_empty : (xs ys : List ℕ) → xs ++ ys ≡ [] → xs ≡ []
front_empty [] ys h = refl
front_empty (x ∷ xs) ys h = absurd (let bad : x ∷ (xs ++ ys) ≡ [] = h in cc)

all_below : (n : ℕ) (xs : List ℕ) → filter (λ entry. nat_le n entry) xs ≡ [] → (k d : ℕ) → k < length xs → slice_index_or xs k d < n
all_below n [] h k d lt = absurd (omega (arith, lt))
all_below n (x ∷ xs) h k d lt = by_test (λ more i less. all_below n xs more i d less) (nat_le n x) refl h k lt
  where
    by_test : (filter (λ entry. nat_le n entry) xs ≡ [] → (i : ℕ) → i < length xs → slice_index_or xs i d < n) → (b : Bool) → nat_le n x ≡ b
        → cond b (x ∷ filter (λ entry. nat_le n entry) xs) (filter (λ entry. nat_le n entry) xs) ≡ [] → (i : ℕ) → i < suc (length xs) → slice_index_or (x ∷ xs) i d < n
    by_test inner true e more i less = absurd (let bad : x ∷ filter (λ entry. nat_le n entry) xs ≡ [] = more in cc)
    by_test inner false e more zero less = grind (arith, nat_tests, e)
    by_test inner false e more (suc i) less = inner more i (omega (arith, less))

-- where none is lacking, the entries are among those of the log
pub entries_there : (cuts : Cuts) (n : ℕ) → lacking cuts n ≡ [] → (k d : ℕ) → k < length (places_of cuts.flushes) → slice_index_or (places_of cuts.flushes) k d < n
unfolding lacking
entries_there cuts n none = all_below n (places_of cuts.flushes) (front_empty (filter (λ entry. nat_le n entry) (places_of cuts.flushes)) (cut_past n cuts.from ++ cut_past n cuts.to) none)
