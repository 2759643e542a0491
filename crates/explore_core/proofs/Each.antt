-- What holds of each element of a list.
use Rattle.std.proofs.Common.{ℕ, zero, suc, ◌≡◌, ◌+◌, ◌<◌, inl, inr, Bool, true, false, not, ◌||◌, cond, List, [], ◌∷◌, ◌++◌, filter, take, replicate, get_or, None, Some, slice_get, slice_set, refl, ap, arith}
use Rattle.std.specs.List.{count_by, find, list_any}
use Rattle.std.proofs.lemmas.List.Sums.{sum_by-set, sum_by-cons}
use Rattle.std.proofs.lemmas.Option.{slice_get_within, get_or_from_slice_get}
use Rattle.base.proofs.Lists.{slice_get_of_push}
use Rattle.explore_core.specs.Sound.{Each}

pub each_none : {X : Type 0} (P : X → Type 0) → Each P []
each_none P i x at = absurd (let bad : None ≡ Some x = at in cc)

pub each_cons : {X : Type 0} (P : X → Type 0) (y : X) (ys : List X) → P y → Each P ys → Each P (y ∷ ys)
each_cons P y ys p h zero x at = let same : y ≡ x = (let s : Some y ≡ Some x = at in cc) in rw (← same) p
each_cons P y ys p h (suc i) x at = h i x at

pub each_push : {X : Type 0} (P : X → Type 0) (xs : List X) (y : X) → Each P xs → P y → Each P (xs ++ y ∷ [])
each_push P xs y h p i x at = elim (slice_get_of_push xs y i x at) [ inl was ↦ h i x was | inr last ↦ rw last.1 p ]

pub each_set : {X : Type 0} (P : X → Type 0) (xs : List X) (w : ℕ) (y : X) → Each P xs → P y → Each P (slice_set xs w y)
each_set P [] w y h p = h
each_set P (z ∷ zs) zero y h p = each_cons P y zs p (λ i. h (suc i))
each_set P (z ∷ zs) (suc w) y h p = each_cons P z (slice_set zs w y) (h zero z refl) (each_set P zs w y (λ i. h (suc i)) p)

pub each_replicate : {X : Type 0} (P : X → Type 0) (n : ℕ) (y : X) → P y → Each P (replicate n y)
each_replicate P zero y p = each_none P
each_replicate P (suc n) y p = each_cons P y (replicate n y) p (each_replicate P n y p)

-- of those that pass a test
pub each_filter : {X : Type 0} (P : X → Type 0) (test : X → Bool) (xs : List X) → Each P xs → Each (λ x. P x × (test x ≡ true)) (filter test xs)
each_filter P test [] h = each_none (λ x. P x × (test x ≡ true))
each_filter P test (x ∷ xs) h = step (each_filter P test xs (λ i. h (suc i))) (h zero x refl) (test x) refl
  where
    step : Each (λ x. P x × (test x ≡ true)) (filter test xs) → P x → (b : Bool) → test x ≡ b
        → Each (λ x. P x × (test x ≡ true)) (cond b (x ∷ filter test xs) (filter test xs))
    step rest p true e = each_cons (λ x. P x × (test x ≡ true)) x (filter test xs) (p, e) rest
    step rest p false e = rest

-- what is found passes the test, and is of the list
pub found : {X : Type 0} (P : X → Type 0) (test : X → Bool) (xs : List X) (x : X) → Each P xs → find test xs ≡ Some x → P x × (test x ≡ true)
found P test [] x h e = absurd (let bad : None ≡ Some x = e in cc)
found P test (y ∷ ys) x h e = step (found P test ys x (λ i. h (suc i))) (h zero y refl) (test y) refl e
  where
    step : (find test ys ≡ Some x → P x × (test x ≡ true)) → P y → (b : Bool) → test y ≡ b → cond b (Some y) (find test ys) ≡ Some x → P x × (test x ≡ true)
    step rest p true t e = let same : y ≡ x = (let s : Some y ≡ Some x = e in cc) in (rw (← same) p, rw (← same) t)
    step rest p false t e = rest e

-- an element of a prefix
pub taken_at : {X : Type 0} (n : ℕ) (xs : List X) (i : ℕ) (x : X) → slice_get (take n xs) i ≡ Some x → slice_get xs i ≡ Some x
taken_at zero xs i x at = absurd (let bad : None ≡ Some x = at in cc)
taken_at (suc n) [] i x at = at
taken_at (suc n) (y ∷ ys) zero x at = at
taken_at (suc n) (y ∷ ys) (suc i) x at = taken_at n ys i x at

-- how many pass, with another element at a place
pub count_set : {X : Type 0} (test : X → Bool) (xs : List X) (w : ℕ) (old new : X) → slice_get xs w ≡ Some old
    → count_by test (slice_set xs w new) + cond (test old) 1 0 ≡ count_by test xs + cond (test new) 1 0
count_set test xs w old new at =
    let sums = sum_by-set (λ x. cond (test x) 1 0) xs w new old (slice_get_within xs w old at) in
    let was : get_or xs w old ≡ old = get_or_from_slice_get xs w old old at in
    rw was at sums

-- of those that pass p the ones that pass q are left out
pub left_out : {X : Type 0} (p q : X → Bool) (xs : List X) → ((x : X) → q x ≡ true → p x ≡ true) → count_by p (filter (λ x. not (q x)) xs) + count_by q xs ≡ count_by p xs
left_out p q [] h = refl
left_out p q (x ∷ xs) h = step (left_out p q xs h) (q x) refl
  where
    all : count_by p (x ∷ xs) ≡ cond (p x) 1 0 + count_by p xs
    all = sum_by-cons (λ y. cond (p y) 1 0) x xs

    out : count_by q (x ∷ xs) ≡ cond (q x) 1 0 + count_by q xs
    out = sum_by-cons (λ y. cond (q y) 1 0) x xs

    step : count_by p (filter (λ y. not (q y)) xs) + count_by q xs ≡ count_by p xs → (b : Bool) → q x ≡ b
        → count_by p (cond (not b) (x ∷ filter (λ y. not (q y)) xs) (filter (λ y. not (q y)) xs)) + count_by q (x ∷ xs) ≡ count_by p (x ∷ xs)
    step rest true e =
        let one : ◌≡◌ {A = ℕ} (cond (p x) 1 0) 1 = ap (λ b. cond b 1 0) (h x e) in
        let gone : ◌≡◌ {A = ℕ} (cond (q x) 1 0) 1 = ap (λ b. cond b 1 0) e in
        omega (arith, all, out, rest, one, gone)
    step rest false e =
        let stays : ◌≡◌ {A = ℕ} (cond (q x) 1 0) 0 = ap (λ b. cond b 1 0) e in
        let left : count_by p (x ∷ filter (λ y. not (q y)) xs) ≡ cond (p x) 1 0 + count_by p (filter (λ y. not (q y)) xs) = sum_by-cons (λ y. cond (p y) 1 0) x (filter (λ y. not (q y)) xs) in
        omega (arith, all, out, rest, stays, left)

-- none of those that pass p is left out
pub none_out : {X : Type 0} (p q : X → Bool) (xs : List X) → ((x : X) → q x ≡ true → p x ≡ false) → count_by p (filter (λ x. not (q x)) xs) ≡ count_by p xs
none_out p q [] h = refl
none_out p q (x ∷ xs) h = step (none_out p q xs h) (q x) refl
  where
    all : count_by p (x ∷ xs) ≡ cond (p x) 1 0 + count_by p xs
    all = sum_by-cons (λ y. cond (p y) 1 0) x xs

    step : count_by p (filter (λ y. not (q y)) xs) ≡ count_by p xs → (b : Bool) → q x ≡ b
        → count_by p (cond (not b) (x ∷ filter (λ y. not (q y)) xs) (filter (λ y. not (q y)) xs)) ≡ count_by p (x ∷ xs)
    step rest true e =
        let none : ◌≡◌ {A = ℕ} (cond (p x) 1 0) 0 = ap (λ b. cond b 1 0) (h x e) in
        omega (arith, all, rest, none)
    step rest false e =
        let left : count_by p (x ∷ filter (λ y. not (q y)) xs) ≡ cond (p x) 1 0 + count_by p (filter (λ y. not (q y)) xs) = sum_by-cons (λ y. cond (p y) 1 0) x (filter (λ y. not (q y)) xs) in
        omega (arith, all, rest, left)

-- where some pass, they count
pub any_counts : {X : Type 0} (q : X → Bool) (xs : List X) → list_any q xs ≡ true → 0 < count_by q xs
any_counts q [] e = absurd (let bad : false ≡ true = e in cc)
any_counts q (x ∷ xs) e = step (any_counts q xs) (q x) refl e
  where
    all : count_by q (x ∷ xs) ≡ cond (q x) 1 0 + count_by q xs
    all = sum_by-cons (λ y. cond (q y) 1 0) x xs

    step : (list_any q xs ≡ true → 0 < count_by q xs) → (b : Bool) → q x ≡ b → (b || list_any q xs) ≡ true → 0 < count_by q (x ∷ xs)
    step rest true k e =
        let one : ◌≡◌ {A = ℕ} (cond (q x) 1 0) 1 = ap (λ b. cond b 1 0) k in
        omega (arith, all, one)
    step rest false k e = omega (arith, all, rest e)

-- and one of them is found
pub any_at : {X : Type 0} (q : X → Bool) (xs : List X) → list_any q xs ≡ true → (i : ℕ) × (x : X) × (slice_get xs i ≡ Some x) × (q x ≡ true)
any_at q [] e = absurd (let bad : false ≡ true = e in cc)
any_at {X = X} q (x ∷ xs) e = step (any_at q xs) (q x) refl e
  where
    step : (list_any q xs ≡ true → (i : ℕ) × (y : X) × (slice_get xs i ≡ Some y) × (q y ≡ true)) → (b : Bool) → q x ≡ b → (b || list_any q xs) ≡ true
        → (i : ℕ) × (y : X) × (slice_get (x ∷ xs) i ≡ Some y) × (q y ≡ true)
    step rest true k e = (zero, x, refl, k)
    step rest false k e = let there = rest e in (suc there.0, there.1, there.2, there.3)
