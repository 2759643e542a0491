-- The sectors of an image that are formed.
use Rattle.std.proofs.Common.{ℕ, zero, suc, ◌≡◌, ◌+◌, ◌<◌, ◌≤◌, ◌==◌, nat_lt, Bool, true, false, ◌||◌, if◌then◌else◌, List, [], ◌∷◌, ◌++◌, length, slice_get, slice_index_or, take, Option, None, Some, refl, sym, subst, ◌∙◌, ap, arith, inl, inr}
use Rattle.std.specs.List.{flat_map, list_any, range_with_len, AllByRecursion}
use Rattle.std.proofs.lemmas.Bool.Decides.{eqb_tells, nat_tests}
use Rattle.std.proofs.lemmas.Option.{slice_get_within, slice_get_past, same_Some, get_or_from_slice_get, slice_get-get_or}
use Rattle.std.proofs.lemmas.Grind.{flat_map-append}
use Rattle.std.proofs.lemmas.List.{append_assoc}
use Rattle.base.proofs.Lists.{range_with_len-more}
use Rattle.epochs.specs.declared.part.Part.{Part}
use Rattle.choices.specs.Choices.{nowhere}
use Rattle.cases.specs.AtCut.{parts_of}
use Rattle.cases.specs.Lent.{is_torn_first, IsTornOver}
use Rattle.case_runs.specs.declared.image.Formed.{Formed}
use Rattle.case_runs.specs.Images.{ImageValue, sectors_in, formed_if, formed_over, formed_of, formed_in, IsImage, count_sectors}

append_none : {A : Type 0} (xs : List A) → xs ++ [] ≡ xs
append_none [] = refl
append_none (x ∷ xs) = ap (λ ys. x ∷ ys) (append_none xs)

-- one more number of a range
pub more_of : {A : Type 0} (f : ℕ → List A) (a n m : ℕ) (start old new : List A) → m ≡ a + n → old ≡ start ++ flat_map f (range_with_len a n) → new ≡ old ++ f m
    → new ≡ start ++ flat_map f (range_with_len a (n + 1))
more_of f a n m start old new at was is =
    is ∙ ap (λ k. old ++ f k) at ∙ ap (λ xs. xs ++ f (a + n)) was
    ∙ sym (ap (λ ns. start ++ flat_map f ns) (range_with_len-more a n) ∙ ap (λ xs. start ++ xs) (flat_map-append f (range_with_len a n) ((a + n) ∷ []) ∙ ap (λ xs. flat_map f (range_with_len a n) ++ xs) (append_none (f (a + n))))
    ∙ regroup start (flat_map f (range_with_len a n)) (f (a + n)))
  where
    regroup : {A : Type 0} (xs ys zs : List A) → xs ++ (ys ++ zs) ≡ (xs ++ ys) ++ zs
    regroup xs ys zs = simp append_assoc

pub none_of : {A : Type 0} (f : ℕ → List A) (a : ℕ) (start : List A) → start ≡ start ++ flat_map f (range_with_len a 0)
none_of f a start = sym (append_none start)

-- a number is among the formed
abbrev pub lists : List Formed → ℕ → Bool
lists formed s = list_any (λ (f : Formed). f.number == s) formed

any_left : {A : Type 0} (p : A → Bool) (xs ys : List A) → list_any p xs ≡ true → list_any p (xs ++ ys) ≡ true
any_left p [] ys is = absurd (let bad : false ≡ true = is in cc)
any_left p (x ∷ xs) ys is = by (any_left p xs ys) (p x) is
  where
    by : (list_any p xs ≡ true → list_any p (xs ++ ys) ≡ true) → (b : Bool) → (b || list_any p xs) ≡ true → (b || list_any p (xs ++ ys)) ≡ true
    by rest true h = refl
    by rest false h = rest h

any_right : {A : Type 0} (p : A → Bool) (xs ys : List A) → list_any p ys ≡ true → list_any p (xs ++ ys) ≡ true
any_right p [] ys is = is
any_right p (x ∷ xs) ys is = by (any_right p xs ys is) (p x)
  where
    by : list_any p (xs ++ ys) ≡ true → (b : Bool) → (b || list_any p (xs ++ ys)) ≡ true
    by rest true = refl
    by rest false = rest

any_of : {A : Type 0} (p : A → Bool) (f : ℕ → List A) (a n i : ℕ) → a ≤ i → i < a + n → list_any p (f i) ≡ true → list_any p (flat_map f (range_with_len a n)) ≡ true
any_of p f a zero i low high is = absurd (omega (arith, low, high))
any_of p f a (suc n) i low high is = elim (eqb_tells a i) [
  | inl same ↦
      let e : i ≡ a = sym same.1 in
      any_left p (f a) (flat_map f (range_with_len (a + 1) n)) (subst (λ j. list_any p (f j) ≡ true) e is)
  | inr other ↦
      let apart = other.1 in
      any_right p (f a) (flat_map f (range_with_len (a + 1) n)) (any_of p f (a + 1) n i (omega (arith, low, apart)) (omega (arith, high)) is)
]

-- each sector of a torn part is formed
pub torn_listed : (v : ImageValue) (s number : ℕ) → length v.sets ≡ length (parts_of v.at) → s < v.at.log.sectors → IsTornOver v.at v.sets s number
    → lists (formed_in v (length (parts_of v.at))) s ≡ true
unfolding formed_in formed_over
torn_listed v s number each on torn =
    let within : number < length (parts_of v.at) = slice_get_within (parts_of v.at) number torn.part torn.there in
    any_of (λ (f : Formed). f.number == s) (formed_of v) 0 (length (parts_of v.at)) number (omega arith) (omega (arith, within)) of_part
  where
    here : (s == s) ≡ true
    here = grind (arith, nat_tests)

    of_one : list_any (λ (f : Formed). f.number == s) (formed_if v s) ≡ true
    of_one =
        let less : nat_lt s v.at.log.sectors ≡ true = grind (arith, nat_tests, on) in
        ap (λ b. list_any (λ (f : Formed). f.number == s) (if b then record { number = s; bytes = slice_index_or (sectors_in v) s [] } ∷ [] else [])) less
        ∙ ap (λ b. b || false) here

    own : slice_index_or (parts_of v.at) number nowhere ≡ torn.part
    own = get_or_from_slice_get (parts_of v.at) number torn.part nowhere torn.there

    of_part : list_any (λ (f : Formed). f.number == s) (formed_of v number) ≡ true
    of_part =
        ap (λ b. list_any (λ (f : Formed). f.number == s) (if b then formed_over v (slice_index_or (parts_of v.at) number nowhere) else [])) torn.torn
        ∙ ap (λ (p : Part). list_any (λ (f : Formed). f.number == s) (formed_over v p)) own
        ∙ any_of (λ (f : Formed). f.number == s) (formed_if v) torn.part.sector torn.part.count s torn.from torn.to of_one

-- each has its bytes
abbrev pub HasBytes : ImageValue → Formed → Type 0
HasBytes v f = slice_get (sectors_in v) f.number ≡ Some f.bytes

all_left : (v : ImageValue) (xs ys : List Formed) → AllByRecursion (HasBytes v) xs → AllByRecursion (HasBytes v) ys → AllByRecursion (HasBytes v) (xs ++ ys)
all_left v [] ys one two = two
all_left v (x ∷ xs) ys one two = (one.0, all_left v xs ys one.1 two)

all_of : (v : ImageValue) (f : ℕ → List Formed) (ns : List ℕ) → ((i : ℕ) → AllByRecursion (HasBytes v) (f i)) → AllByRecursion (HasBytes v) (flat_map f ns)
all_of v f [] each = tt
all_of v f (n ∷ ns) each = all_left v (f n) (flat_map f ns) (each n) (all_of v f ns each)

own_bytes : (v : ImageValue) (s : ℕ) → AllByRecursion (HasBytes v) (formed_if v s)
own_bytes v s = by (nat_lt s v.at.log.sectors) refl
  where
    by : (b : Bool) → nat_lt s v.at.log.sectors ≡ b → AllByRecursion (HasBytes v) (if b then record { number = s; bytes = slice_index_or (sectors_in v) s [] } ∷ [] else [])
    by true is =
        let less : s < v.at.log.sectors = grind (arith, nat_tests, is) in
        let many = count_sectors v in
        (slice_get-get_or (sectors_in v) s [] (omega (arith, less, many)), tt)
    by false is = tt

bytes_of : (v : ImageValue) (number : ℕ) → AllByRecursion (HasBytes v) (formed_of v number)
unfolding formed_over
bytes_of v number = by (is_torn_first (slice_index_or v.sets number 0))
  where
    p : Part
    p = slice_index_or (parts_of v.at) number nowhere

    by : (b : Bool) → AllByRecursion (HasBytes v) (if b then flat_map (formed_if v) (range_with_len (slice_index_or (parts_of v.at) number nowhere).sector (slice_index_or (parts_of v.at) number nowhere).count) else [])
    by true = all_of v (formed_if v) (range_with_len (slice_index_or (parts_of v.at) number nowhere).sector (slice_index_or (parts_of v.at) number nowhere).count) (own_bytes v)
    by false = tt

pub all_bytes : (v : ImageValue) (n : ℕ) → AllByRecursion (HasBytes v) (formed_in v n)
unfolding formed_in
all_bytes v n = all_of v (formed_of v) (range_with_len 0 n) (bytes_of v)

-- the one at a place
at_place : (v : ImageValue) (formed : List Formed) (i : ℕ) (f : Formed) → AllByRecursion (HasBytes v) formed → slice_get formed i ≡ Some f → HasBytes v f
at_place v [] i f each there = absurd (let bad : None ≡ Some f = there in cc)
at_place v (g ∷ formed) zero f each there = subst (HasBytes v) (same_Some g f there) each.0
at_place v (g ∷ formed) (suc i) f each there = at_place v formed i f each.1 there

pub found_bytes : (v w : ImageValue) (formed : List Formed) (n i s : ℕ) (f : Formed) (bytes : List ℕ) → v ≡ w → formed ≡ formed_in v n → slice_get formed i ≡ Some f → f.number ≡ s → bytes ≡ f.bytes
    → slice_get (sectors_in w) s ≡ Some bytes
found_bytes v w formed n i s f bytes same all there is own =
    ap (λ (u : ImageValue). slice_get (sectors_in u) s) (sym same) ∙ ap (λ m. slice_get (sectors_in v) m) (sym is) ∙ at_place v formed i f (subst (AllByRecursion (HasBytes v)) (sym all) (all_bytes v n)) there ∙ ap (λ (xs : List ℕ). Some xs) (sym own)

pub formed_one : (v : ImageValue) (s : ℕ) (old new : List Formed) (bytes : List ℕ) → new ≡ old ++ record { number = s; bytes = bytes } ∷ [] → slice_get (sectors_in v) s ≡ Some bytes
    → s < v.at.log.sectors → new ≡ old ++ formed_if v s
formed_one v s old new bytes is there less =
    let small : nat_lt s v.at.log.sectors ≡ true = grind (arith, nat_tests, less) in
    is ∙ ap (λ (xs : List ℕ). old ++ record { number = s; bytes = xs } ∷ []) (sym (get_or_from_slice_get (sectors_in v) s bytes [] there))
    ∙ sym (ap (λ b. old ++ (if b then record { number = s; bytes = slice_index_or (sectors_in v) s [] } ∷ [] else [])) small)

pub past_sectors : (v : ImageValue) (n count : ℕ) → count ≡ v.at.log.sectors → count ≤ n → ◌≡◌ {A = Option (List ℕ)} None (slice_get (sectors_in v) n)
past_sectors v n count is past = let many = count_sectors v in sym (slice_get_past (sectors_in v) n (omega (arith, many, is, past)))

take_past : {A : Type 0} (xs : List A) (n : ℕ) → length xs ≤ n → take n xs ≡ xs
take_past [] zero low = refl
take_past [] (suc n) low = refl
take_past (x ∷ xs) zero low = absurd (omega (arith, low))
take_past (x ∷ xs) (suc n) low = ap (λ ys. x ∷ ys) (take_past xs n (omega (arith, low)))

pub none_listed : (v : ImageValue) (formed : List Formed) (i s number : ℕ) → IsImage v formed → s < v.at.log.sectors → IsTornOver v.at v.sets s number → length formed ≤ i
    → lists (take i formed) s ≡ false → ⊥
none_listed v formed i s number image on torn past none =
    let listed : lists formed s ≡ true = subst (λ (fs : List Formed). lists fs s ≡ true) (sym image.all) (torn_listed v s number image.each on torn) in
    let bad : true ≡ false = sym listed ∙ ap (λ (fs : List Formed). lists fs s) (sym (take_past formed i past)) ∙ none in
    absurd cc
