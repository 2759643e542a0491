-- Of a case as a set for each part.
use Rattle.std.proofs.Common.{ℕ, zero, suc, ◌≡◌, ◌<◌, ◌≤◌, nat_lt, Bool, true, false, not, ◌&&◌, if◌then◌else◌, List, [], ◌∷◌, length, map, filter, set, count_by, slice_get, slice_index_or, Option, None, Some, refl, sym, ◌∙◌, ap, arith, inl, inr}
use Rattle.std.specs.List.{list_all, range_with_len}
use Rattle.std.specs.Option.{option_map_or}
use Rattle.std.proofs.lemmas.Bool.Decides.{nat_tests}
use Rattle.std.proofs.lemmas.List.Sums.{sum_by-cons, sum_by-set}
use Rattle.std.proofs.lemmas.List.Filters.{length-filter_both}
use Rattle.std.proofs.lemmas.List.Folds.{list_all-map}
use Rattle.std.proofs.lemmas.Option.{same_Some}
use Rattle.epochs.specs.declared.part.Part.{Part}
use Rattle.choices.specs.declared.fate.Fate.{Fate}
use Rattle.choices.specs.declared.fate.Fate.TheVariants as fate
use Rattle.cases.specs.Cases.{is_same, with_part, firsts, kinds}
use Rattle.cases.specs.Trees.{is_torn, is_lost}
use Rattle.cases.specs.Laws.{IsAmong}
use Rattle.cases.specs.Sets.{has, numbers_in, fates_in, fate_at, all_torn, all_lost}
use Rattle.cases.specs.AtCut.{Apart, case_of}
use Rattle.cases.proofs.Cases.{AreKinds, same_part, own_part}

pub there_among : {A : Type 0} (xs : List A) (i : ℕ) (x : A) → slice_get xs i ≡ Some x → IsAmong xs x
there_among [] i x there = absurd (let bad : None ≡ Some x = there in cc)
there_among (y ∷ ys) zero x there = inl (same_Some y x there)
there_among (y ∷ ys) (suc i) x there = inr (there_among ys i x there)

pub case_there : (tears : Bool) (parts : List Part) (sets : List ℕ) (i : ℕ) (p : Part) → Apart parts → slice_get parts i ≡ Some p → i < length sets
    → case_of tears parts sets p ≡ fates_in (slice_index_or sets i 0)
case_there tears [] sets i p apart there within = absurd (let bad : None ≡ Some p = there in cc)
case_there tears (q ∷ parts) [] i p apart there within = absurd (omega (arith, within))
case_there tears (q ∷ parts) (b ∷ sets) zero p apart there within =
    let same : q ≡ p = same_Some q p there in
    let own : is_same q p ≡ true = sym (ap (is_same q) same) ∙ own_part q in
    ap (λ v. if v then fates_in b else case_of tears parts sets p) own
case_there tears (q ∷ parts) (b ∷ sets) (suc i) p apart there within =
    ap (λ v. if v then fates_in b else case_of tears parts sets p) (apart.0 p (there_among parts i p there))
    ∙ case_there tears parts sets i p apart.1 there (omega (arith, within))

with_there : (tears : Bool) (parts : List Part) (sets : List ℕ) (i : ℕ) (p : Part) (x : ℕ) (q : Part) → Apart parts → slice_get parts i ≡ Some p → i < length sets
    → case_of tears parts (set sets i x) q ≡ (if is_same p q then fates_in x else case_of tears parts sets q)
with_there tears [] sets i p x q apart there within = absurd (let bad : None ≡ Some p = there in cc)
with_there tears (r ∷ parts) [] i p x q apart there within = absurd (omega (arith, within))
with_there tears (r ∷ parts) (b ∷ sets) zero p x q apart there within =
    let same : r ≡ p = same_Some r p there in
    ap (λ (t : Part). if is_same t q then fates_in x else case_of tears parts sets q) same
    ∙ twice (is_same p q) ∙ sym (ap (λ (t : Part). if is_same p q then fates_in x else if is_same t q then fates_in b else case_of tears parts sets q) same)
  where
    twice : (v : Bool) → (if v then fates_in x else case_of tears parts sets q) ≡ (if v then fates_in x else if v then fates_in b else case_of tears parts sets q)
    twice true = refl
    twice false = refl
with_there tears (r ∷ parts) (b ∷ sets) (suc i) p x q apart there within =
    ap (λ c. if is_same r q then fates_in b else c) (with_there tears parts sets i p x q apart.1 there (omega (arith, within)))
    ∙ by_tests (is_same r q) (is_same p q) refl refl
  where
    by_tests : (v w : Bool) → is_same r q ≡ v → is_same p q ≡ w
        → (if v then fates_in b else if w then fates_in x else case_of tears parts sets q) ≡ (if w then fates_in x else if v then fates_in b else case_of tears parts sets q)
    by_tests true true one two =
        let first : r ≡ q = same_part r q one in
        let second : p ≡ q = same_part p q two in
        let bad : true ≡ false = sym (own_part r) ∙ ap (is_same r) (first ∙ sym second) ∙ apart.0 p (there_among parts i p there) in
        cc
    by_tests true false one two = refl
    by_tests false true one two = refl
    by_tests false false one two = refl

-- a set in the place of another makes the case with other fates of that part
pub case_with : (tears : Bool) (parts : List Part) (sets : List ℕ) (i : ℕ) (p : Part) (x : ℕ) → Apart parts → slice_get parts i ≡ Some p → i < length sets
    → case_of tears parts (set sets i x) ≡ with_part (case_of tears parts sets) p (fates_in x)
case_with tears parts sets i p x apart there within = λ j q. with_there tears parts sets i p x q apart there within j

-- how many parts do what a test says, whatever becomes of them

pub count_same : {A : Type 0} (f g : A → Bool) (xs : List A) → ((x : A) → IsAmong xs x → f x ≡ g x) → count_by f xs ≡ count_by g xs
count_same f g [] each = refl
count_same f g (x ∷ xs) each =
    let one = sum_by-cons (λ y. if f y then 1 else 0) x xs in
    let two = sum_by-cons (λ y. if g y then 1 else 0) x xs in
    let here : ◌≡◌ {A = ℕ} (if f x then 1 else 0) (if g x then 1 else 0) = ap (λ b. if b then 1 else 0) (each x (inl refl)) in
    let rest = count_same f g xs (λ y is. each y (inr is)) in
    omega (arith, one, two, here, rest)

pub count_in_case : (tears : Bool) (test : Option Fate → Bool) (parts : List Part) (sets : List ℕ) → Apart parts → length sets ≡ length parts
    → count_by (λ (p : Part). list_all test (case_of tears parts sets p)) parts ≡ count_by (λ bits. list_all test (fates_in bits)) sets
count_in_case tears test [] [] apart long = refl
count_in_case tears test [] (b ∷ sets) apart long = absurd (omega (arith, long))
count_in_case tears test (q ∷ parts) [] apart long = absurd (omega (arith, long))
count_in_case tears test (q ∷ parts) (b ∷ sets) apart long =
    let F : Part → Bool = λ p. list_all test (case_of tears (q ∷ parts) (b ∷ sets) p) in
    let G : Part → Bool = λ p. list_all test (case_of tears parts sets p) in
    let H : ℕ → Bool = λ bits. list_all test (fates_in bits) in
    let one = sum_by-cons (λ y. if F y then 1 else 0) q parts in
    let two = sum_by-cons (λ y. if H y then 1 else 0) b sets in
    let own : F q ≡ H b = ap (λ v. list_all test (if v then fates_in b else case_of tears parts sets q)) (own_part q) in
    let here : ◌≡◌ {A = ℕ} (if F q then 1 else 0) (if H b then 1 else 0) = ap (λ v. if v then 1 else 0) own in
    let rest : count_by F parts ≡ count_by G parts =
    count_same F G parts (λ p is. ap (λ v. list_all test (if v then fates_in b else case_of tears parts sets p)) (apart.0 p is)) in
    let more = count_in_case tears test parts sets apart.1 (omega (arith, long)) in
    omega (arith, one, two, here, rest, more)

all_kept : {A : Type 0} (q p : A → Bool) (xs : List A) → list_all q xs ≡ true → list_all q (filter p xs) ≡ true
all_kept q p [] all = refl
all_kept q p (x ∷ xs) all = by_test (p x) (all_kept q p xs (Rattle.std.specs.Cmp.second_so (q x) (list_all q xs) all))
  where
    by_test : (b : Bool) → list_all q (filter p xs) ≡ true → list_all q (if b then x ∷ filter p xs else filter p xs) ≡ true
    by_test true rest = ap (λ v. v && list_all q (filter p xs)) (Rattle.std.specs.Cmp.first_so (q x) (list_all q xs) all) ∙ rest
    by_test false rest = rest

pub torn_all : (bits : ℕ) → list_all is_torn (fates_in bits) ≡ all_torn bits
unfolding fates_in numbers_in
torn_all bits =
    list_all-map is_torn fate_at (filter (has bits) (range_with_len 0 16))
    ∙ by_tests (has bits 0) (has bits 1)
  where
    rest : List ℕ
    rest = filter (has bits) (range_with_len 2 14)

    last : list_all (λ n. is_torn (fate_at n)) rest ≡ true
    last = all_kept (λ n. is_torn (fate_at n)) (has bits) (range_with_len 2 14) refl

    by_tests : (v w : Bool)
        → list_all (λ n. is_torn (fate_at n)) (if v then 0 ∷ (if w then 1 ∷ rest else rest) else (if w then 1 ∷ rest else rest)) ≡ (not v && not w)
    by_tests true w = refl
    by_tests false true = refl
    by_tests false false = last

pub lost_all : (bits : ℕ) → list_all is_lost (fates_in bits) ≡ all_lost bits
unfolding fates_in numbers_in
lost_all bits =
    list_all-map is_lost fate_at (filter (has bits) (range_with_len 0 16))
    ∙ by_test (has bits 0)
  where
    rest : List ℕ
    rest = filter (has bits) (range_with_len 1 15)

    by_test : (v : Bool) → list_all (λ n. is_lost (fate_at n)) (if v then 0 ∷ rest else rest) ≡ not v
    by_test true = refl
    by_test false = all_kept (λ n. is_lost (fate_at n)) (has bits) (range_with_len 1 15) refl

-- where the first fate of a set is torn, or lost, all are

pub torn_first : (bits : ℕ) (x : Option Fate) (rest : List (Option Fate)) → fates_in bits ≡ x ∷ rest → is_torn x ≡ true → all_torn bits ≡ true
unfolding fates_in numbers_in
torn_first bits x rest is torn = by_tests (has bits 0) (has bits 1) refl refl is
  where
    others : List ℕ
    others = filter (has bits) (range_with_len 2 14)

    by_tests : (v w : Bool) → has bits 0 ≡ v → has bits 1 ≡ w → map fate_at (if v then 0 ∷ (if w then 1 ∷ others else others) else (if w then 1 ∷ others else others)) ≡ x ∷ rest
        → (not (has bits 0) && not (has bits 1)) ≡ true
    by_tests true w one two own =
        let same : None ≡ x = (let whole : None ∷ map fate_at (if w then 1 ∷ others else others) ≡ x ∷ rest = own in cc) in
        let bad : false ≡ true = ap is_torn same ∙ torn in
        cc
    by_tests false true one two own =
        let same : Some fate.Drop ≡ x = (let whole : Some fate.Drop ∷ map fate_at others ≡ x ∷ rest = own in cc) in
        let bad : false ≡ true = ap is_torn same ∙ torn in
        cc
    by_tests false false one two own = ap (λ v. not v && not (has bits 1)) one ∙ ap not two

pub lost_first : (bits : ℕ) (x : Option Fate) (rest : List (Option Fate)) → fates_in bits ≡ x ∷ rest → is_lost x ≡ true → all_lost bits ≡ true
unfolding fates_in numbers_in
lost_first bits x rest is lost = by_test (has bits 0) refl is
  where
    others : List ℕ
    others = filter (has bits) (range_with_len 1 15)

    by_test : (v : Bool) → has bits 0 ≡ v → map fate_at (if v then 0 ∷ others else others) ≡ x ∷ rest → not (has bits 0) ≡ true
    by_test true one own =
        let same : None ≡ x = (let whole : None ∷ map fate_at others ≡ x ∷ rest = own in cc) in
        let bad : false ≡ true = ap is_lost same ∙ lost in
        cc
    by_test false one own = ap not one

-- the first of two groups or more has fewer fates than all have

length_kept : {A : Type 0} (q : A → Bool) (xs : List A) → length (filter q xs) ≤ length xs
length_kept q xs = let both = length-filter_both q (λ x. not (q x)) (λ x. refl) xs in omega (arith, both)

fewer_firsts : {A : Type 0} (alike : A → A → Bool) (q : A → Bool) (xs : List A) → length (filter q (firsts alike xs)) ≤ length (filter q xs)
fewer_firsts alike q [] = omega arith
fewer_firsts alike q (x ∷ xs) = by_test (q x) (fewer_firsts alike q xs) (kept_both (firsts alike xs))
  where
    kept_both : (ys : List _) → length (filter q (filter (λ y. not (alike x y)) ys)) ≤ length (filter q ys)
    kept_both [] = omega arith
    kept_both (y ∷ ys) = by_tests (not (alike x y)) (q y) refl (kept_both ys)
      where
        by_tests : (v w : Bool) → q y ≡ w → length (filter q (filter (λ z. not (alike x z)) ys)) ≤ length (filter q ys)
            → length (filter q (if v then y ∷ filter (λ z. not (alike x z)) ys else filter (λ z. not (alike x z)) ys)) ≤ length (if w then y ∷ filter q ys else filter q ys)
        by_tests true true own few =
            let one = ap (λ b. length (if b then y ∷ filter q (filter (λ z. not (alike x z)) ys) else filter q (filter (λ z. not (alike x z)) ys))) own in
            omega (arith, one, few)
        by_tests true false own few =
            let one = ap (λ b. length (if b then y ∷ filter q (filter (λ z. not (alike x z)) ys) else filter q (filter (λ z. not (alike x z)) ys))) own in
            omega (arith, one, few)
        by_tests false true own few = omega (arith, few)
        by_tests false false own few = few

    by_test : (b : Bool) → length (filter q (firsts alike xs)) ≤ length (filter q xs)
        → length (filter q (filter (λ y. not (alike x y)) (firsts alike xs))) ≤ length (filter q (firsts alike xs))
        → length (if b then x ∷ filter q (filter (λ y. not (alike x y)) (firsts alike xs)) else filter q (filter (λ y. not (alike x y)) (firsts alike xs)))
        ≤ length (if b then x ∷ filter q xs else filter q xs)
    by_test true few less = omega (arith, few, less)
    by_test false few less = omega (arith, few, less)

-- what the first group of several is: the first fate, and those that are like it, and fewer than all
pub record FirstGroup (alike : Option Fate → Option Fate → Bool) (old first : ℕ) : Type 0 where
  pub fate : Option Fate
  pub own : List (Option Fate)
  pub all : List (Option Fate)
  pub is_own : fates_in first ≡ fate ∷ own
  pub is_all : fates_in old ≡ fate ∷ all
  pub less : length (fates_in first) < length (fates_in old)

pub first_group : (alike : Option Fate → Option Fate → Bool) (laws : AreKinds alike) (old : ℕ) (g : ℕ) (gs : List ℕ) → map fates_in (g ∷ gs) ≡ kinds alike (fates_in old)
    → nat_lt 1 (length (firsts alike (fates_in old))) ≡ true → FirstGroup alike old g
first_group alike laws old g gs is many = by_fates (fates_in old) refl
  where
    by_fates : (fates : List (Option Fate)) → fates_in old ≡ fates → FirstGroup alike old g
    by_fates [] none =
        let bad : fates_in g ∷ map fates_in gs ≡ [] = is ∙ ap (kinds alike) none in
        cc
    by_fates (x ∷ rest) some =
        let whole : fates_in g ∷ map fates_in gs ≡ filter (alike x) (x ∷ rest) ∷ map (λ y. filter (alike y) (x ∷ rest)) (filter (λ y. not (alike x y)) (firsts alike rest)) =
        is ∙ ap (kinds alike) some in
        let first : fates_in g ≡ filter (alike x) (x ∷ rest) = cc in
        let own : fates_in g ≡ x ∷ filter (alike x) rest = first ∙ ap (λ b. if b then x ∷ filter (alike x) rest else filter (alike x) rest) (laws.own x) in
        let long : length (fates_in g) ≡ suc (length (filter (alike x) rest)) = ap (λ (fs : List (Option Fate)). length fs) own in
        let all_long : length (fates_in old) ≡ suc (length rest) = ap (λ (fs : List (Option Fate)). length fs) some in
        let two : nat_lt 1 (suc (length (filter (λ y. not (alike x y)) (firsts alike rest)))) ≡ true = sym (ap (λ fs. nat_lt 1 (length (firsts alike fs))) some) ∙ many in
        let more : 1 < suc (length (filter (λ y. not (alike x y)) (firsts alike rest))) = grind (arith, nat_tests, two) in
        let few = fewer_firsts alike (λ y. not (alike x y)) rest in
        let both = length-filter_both (alike x) (λ y. not (alike x y)) (λ y. refl) rest in
        record {
          fate = x;
          own = filter (alike x) rest;
          all = rest;
          is_own = own;
          is_all = some;
          less = omega (arith, long, all_long, more, few, both);
        }

-- a set in the place of one that has all the more

pub count_set_le : (test : ℕ → Bool) (sets : List ℕ) (i x : ℕ) → i < length sets → (test x ≡ true → test (slice_index_or sets i 0) ≡ true)
    → count_by test (set sets i x) ≤ count_by test sets
count_set_le test sets i x within on =
    let moved = sum_by-set (λ b. if test b then 1 else 0) sets i x 0 within in
    let here = at_one (test x) (test (slice_index_or sets i 0)) on in
    omega (arith, moved, here)
  where
    at_one : (a b : Bool) → (a ≡ true → b ≡ true) → (if a then 1 else 0) ≤ (if b then 1 else 0)
    at_one true true on = omega arith
    at_one true false on = absurd (let bad : false ≡ true = on refl in cc)
    at_one false true on = omega arith
    at_one false false on = omega arith
