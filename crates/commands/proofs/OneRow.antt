-- Things that each begin at a number, and of which each has a place of its own: of the same things, two rows by where they begin are one.
use Rattle.std.proofs.Common.{ℕ, zero, suc, ◌≡◌, ◌+◌, ◌-◌, ◌<◌, ◌≤◌, ◌==◌, ◌&&◌, nat_le, Bool, true, false, if◌then◌else◌, inl, inr, List, [], ◌∷◌, ◌++◌, get_or, slice_get, All, Some, None, refl, sym, ◌∙◌, ap, subst, arith}
use Rattle.std.specs.List.{sum_by}
use Rattle.std.specs.List.Sorted.{IsPermutation, IsNonDecreasingBy}
use Rattle.std.proofs.lemmas.Bool.{cases_lt}
use Rattle.std.proofs.lemmas.Bool.Decides.{nat_tests, eqb_tells}
use Rattle.std.proofs.lemmas.List.Elements.{All-nil, All-cons}
use Rattle.std.proofs.lemmas.List.Sums.{sum_by-cons}
use Rattle.std.proofs.lemmas.List.Sorted.{All-permutation, sum_by-IsPermutation}

-- P of each
abbrev pub Each : {A : Type 0} → (A → Type 0) → List A → Type 0
Each P [] = Unit {0}
Each P (x ∷ xs) = P x × Each P xs

pub each_of : {A : Type 0} (P : A → Type 0) (xs : List A) → All P xs → Each P xs
each_of P [] all = tt
each_of P (x ∷ xs) all = (all 0 x (omega arith), each_of P xs (λ k d l. all (suc k) d (omega (arith, l))))

pub all_of : {A : Type 0} (P : A → Type 0) (xs : List A) → Each P xs → All P xs
all_of P [] each = All-nil P
all_of P (x ∷ xs) each = All-cons P x xs each.0 (all_of P xs each.1)

pub each_beyond : {A : Type 0} (P : A → Type 0) (front back : List A) → Each P (front ++ back) → Each P back
each_beyond P [] back each = each
each_beyond P (x ∷ front) back each = each_beyond P front back each.1

pub each_at : {A : Type 0} (P : A → Type 0) (xs : List A) (k : ℕ) (x : A) → Each P xs → slice_get xs k ≡ Some x → P x
each_at P [] k x each there = absurd (let bad : None ≡ Some x = there in cc)
each_at P (y ∷ ys) zero x each there = let both : Some y ≡ Some x = there in let same : y ≡ x = cc in subst P same each.0
each_at P (y ∷ ys) (suc k) x each there = each_at P ys k x each.1 there

-- the same things
abbrev Sums : {A : Type 0} → List A → List A → Type 0
Sums {A} xs ys = (f : A → ℕ) → sum_by f xs ≡ sum_by f ys

module _ {A : Type 0} (file : A → ℕ) where
  -- each has the number of its place, the first of them n
  abbrev pub AreNumbered : ℕ → List A → Type 0
  AreNumbered n [] = Unit {0}
  AreNumbered n (x ∷ xs) = (file x ≡ n) × AreNumbered (n + 1) xs

  -- a thing stands at its place
  abbrev StandsAt : ℕ → List A → A → Type 0
  StandsAt n xs x = (n ≤ file x) × (slice_get xs (file x - n) ≡ Some x)

  stands_after : (n : ℕ) (y : A) (xs : List A) (x : A) → StandsAt (n + 1) xs x → StandsAt n (y ∷ xs) x
  stands_after n y xs x at =
      let beyond = at.0 in
      let place : file x - n ≡ suc (file x - (n + 1)) = omega (arith, beyond) in
      (omega (arith, beyond), rw place at.1)

  all_stand : (n : ℕ) (xs : List A) → AreNumbered n xs → All (StandsAt n xs) xs
  all_stand n [] each = All-nil (StandsAt n [])
  all_stand n (x ∷ xs) each =
      let rest = all_stand (n + 1) xs each.1 in
      let at = each.0 in
      let place : file x - n ≡ 0 = omega (arith, at) in
      All-cons (StandsAt n (x ∷ xs)) x xs (omega (arith, at), rw place refl) (λ k d l. stands_after n x xs (get_or xs k d) (rest k d l))

  one_file : (xs : List A) (x y : A) → StandsAt 0 xs x → StandsAt 0 xs y → file x ≡ file y → x ≡ y
  one_file xs x y a b same = let both : Some x ≡ Some y = sym a.1 ∙ ap (λ (k : ℕ). slice_get xs (k - 0)) same ∙ b.1 in cc

module _ {A : Type 0} (start : A → ℕ) where
  abbrev pub Past : ℕ → A → Type 0
  Past n x = n < start x

  abbrev pub NotBefore : ℕ → A → Type 0
  NotBefore n x = n ≤ start x

  abbrev pub IsRising : List A → Type 0
  IsRising [] = Unit {0}
  IsRising (x ∷ xs) = Each (Past (start x)) xs × IsRising xs

  abbrev pub IsNotFalling : List A → Type 0
  IsNotFalling [] = Unit {0}
  IsNotFalling (x ∷ xs) = Each (NotBefore (start x)) xs × IsNotFalling xs

  from_after : (n : ℕ) (xs : List A) → Each (Past n) xs → Each (NotBefore n) xs
  from_after n [] each = tt
  from_after n (x ∷ xs) each = (let own = each.0 in omega (arith, own), from_after n xs each.1)

  beyond_more : (m n : ℕ) (xs : List A) → m ≤ n → Each (Past n) xs → Each (Past m) xs
  beyond_more m n [] le each = tt
  beyond_more m n (x ∷ xs) le each = (let own = each.0 in omega (arith, own, le), beyond_more m n xs le each.1)

  after_from : (m n : ℕ) (xs : List A) → m < n → Each (NotBefore n) xs → Each (Past m) xs
  after_from m n [] less each = tt
  after_from m n (x ∷ xs) less each = (let own = each.0 in omega (arith, own, less), after_from m n xs less each.1)

  pub rising_up : (xs : List A) → IsRising xs → IsNotFalling xs
  rising_up [] up = tt
  rising_up (x ∷ xs) up = (from_after (start x) xs up.0, rising_up xs up.1)

  pub sorted_up : (xs : List A) → IsNonDecreasingBy start xs → IsNotFalling xs
  sorted_up [] up = tt
  sorted_up (x ∷ xs) up = (
    each_of (NotBefore (start x)) xs (λ k d l. up 0 (suc k) d (omega arith) (omega (arith, l))),
    sorted_up xs (λ i j d le l. up (suc i) (suc j) d (omega (arith, le)) (omega (arith, l))),
  )

  -- how many begin at a number or before it
  abbrev early : ℕ → A → ℕ
  early n x = if nat_le (start x) n then 1 else 0

  none_early : (n : ℕ) (xs : List A) → Each (Past n) xs → sum_by (early n) xs ≡ 0
  none_early n [] later = refl
  none_early n (x ∷ xs) later =
      let less = later.0 in
      let low : nat_le (start x) n ≡ false = grind (arith, nat_tests, less) in
      let own : early n x ≡ 0 = rw low refl in
      let rest = none_early n xs later.1 in
      let sum = sum_by-cons (early n) x xs in
      omega (arith, own, rest, sum)

  own_early : (n : ℕ) (x : A) → start x ≤ n → early n x ≡ 1
  own_early n x le = let low : nat_le (start x) n ≡ true = grind (arith, nat_tests, le) in rw low refl

  -- of the same things the first one of each list begins alike
  not_later : (x y : A) (xs ys : List A) → Sums (x ∷ xs) (y ∷ ys) → Each (Past (start x)) xs → start x ≤ start y
  not_later x y xs ys sums up = elim (cases_lt (start y) (start x)) [
    | inl less ↦ absurd (
        let none = none_early (start y) (x ∷ xs) (less, beyond_more (start y) (start x) xs (omega (arith, less)) up) in
        let all = sums (early (start y)) in
        let sum = sum_by-cons (early (start y)) y ys in
        let own = own_early (start y) y (omega arith) in
        omega (arith, none, all, sum, own))
    | inr le ↦ le
  ]

  not_sooner : (x y : A) (xs ys : List A) → Sums (x ∷ xs) (y ∷ ys) → Each (NotBefore (start y)) ys → start y ≤ start x
  not_sooner x y xs ys sums up = elim (cases_lt (start x) (start y)) [
    | inl less ↦ absurd (
        let none = none_early (start x) (y ∷ ys) (less, after_from (start x) (start y) ys less up) in
        let all = sums (early (start x)) in
        let sum = sum_by-cons (early (start x)) x xs in
        let own = own_early (start x) x (omega arith) in
        omega (arith, none, all, sum, own))
    | inr le ↦ le
  ]

module _ {A : Type 0} (start file : A → ℕ) where
  -- and how many of these are of a file
  abbrev named : ℕ → ℕ → A → ℕ
  named n k x = if file x == k && nat_le (start x) n then 1 else 0

  none_named : (n k : ℕ) (xs : List A) → Each (Past start n) xs → sum_by (named n k) xs ≡ 0
  none_named n k [] later = refl
  none_named n k (x ∷ xs) later =
      let less = later.0 in
      let low : nat_le (start x) n ≡ false = grind (arith, nat_tests, less) in
      let own : named n k x ≡ 0 = elim (file x == k) as (λ v. ◌≡◌ {A = ℕ} (if v && nat_le (start x) n then 1 else 0) 0) [ true ↦ rw low refl | false ↦ refl ] in
      let rest = none_named n k xs later.1 in
      let sum = sum_by-cons (named n k) x xs in
      omega (arith, own, rest, sum)

  own_named : (n : ℕ) (x : A) → start x ≤ n → named n (file x) x ≡ 1
  own_named n x le =
      let low : nat_le (start x) n ≡ true = grind (arith, nat_tests, le) in
      let same : (file x == file x) ≡ true = grind (arith, nat_tests) in
      rw (same, low) refl

  file_named : (n k : ℕ) (x : A) → named n k x ≡ 1 → file x ≡ k
  file_named n k x one = elim (eqb_tells (file x) k) [
    | inl same ↦ same.1
    | inr other ↦ absurd (let none : named n k x ≡ 0 = rw other.0 refl in omega (arith, one, none))
  ]

  few : (b : Bool) → (if b then 1 else 0) ≤ 1
  few true = omega arith
  few false = omega arith

  at_most : (n k : ℕ) (x : A) → named n k x ≤ 1
  at_most n k x = few (file x == k && nat_le (start x) n)

  same_head : (all : List A) (x y : A) (xs ys : List A) → Sums (x ∷ xs) (y ∷ ys) → Each (Past start (start x)) xs → Each (NotBefore start (start y)) ys
      → StandsAt file 0 all x → StandsAt file 0 all y → x ≡ y
  same_head all x y xs ys sums up rise there other =
      let low = not_later start x y xs ys sums up in
      let high = not_sooner start x y xs ys sums rise in
      let rest = none_named (start y) (file y) xs (beyond_more start (start y) (start x) xs high up) in
      let both = sums (named (start y) (file y)) in
      let left = sum_by-cons (named (start y) (file y)) x xs in
      let right = sum_by-cons (named (start y) (file y)) y ys in
      let own = own_named (start y) y (omega arith) in
      let most = at_most (start y) (file y) x in
      let one : named (start y) (file y) x ≡ 1 = omega (arith, rest, both, left, right, own, most) in
      one_file file all x y there other (file_named (start y) (file y) x one)

  same_row : (all xs ys : List A) → Sums xs ys → IsRising start xs → IsNotFalling start ys → Each (StandsAt file 0 all) xs → Each (StandsAt file 0 all) ys → xs ≡ ys
  same_row all [] [] sums up rise there other = refl
  same_row all [] (y ∷ ys) sums up rise there other =
      absurd (let none : 0 ≡ sum_by (λ (x : A). 1) (y ∷ ys) = sums (λ (x : A). 1) in let more = sum_by-cons (λ (x : A). 1) y ys in omega (arith, none, more))
  same_row all (x ∷ xs) [] sums up rise there other =
      absurd (let none : sum_by (λ (y : A). 1) (x ∷ xs) ≡ 0 = sums (λ (y : A). 1) in let more = sum_by-cons (λ (y : A). 1) x xs in omega (arith, none, more))
  same_row all (x ∷ xs) (y ∷ ys) sums up rise there other =
      let one = same_head all x y xs ys sums up.0 rise.0 there.0 other.0 in
      let rest =
      same_row all xs ys
      (λ f. let both = sums f in let left = sum_by-cons f x xs in let right = sum_by-cons f y ys in let same = ap f one in omega (arith, both, left, right, same)) up.1 rise.1 there.1 other.1 in
      λ i. one i ∷ rest i

  -- of the same things two rows are one
  pub one_row : (all xs ys : List A) → AreNumbered file 0 all → IsPermutation all xs → IsPermutation all ys → IsRising start xs → IsNotFalling start ys → xs ≡ ys
  one_row all xs ys numbers one other up rise =
      let there = all_stand file 0 all numbers in
      same_row all xs ys (λ f. sum_by-IsPermutation f all xs one ∙ sym (sum_by-IsPermutation f all ys other)) up rise
      (each_of (StandsAt file 0 all) xs (All-permutation (StandsAt file 0 all) all xs one there))
      (each_of (StandsAt file 0 all) ys (All-permutation (StandsAt file 0 all) all ys other there))
