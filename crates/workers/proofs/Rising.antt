-- What a rising list has, by a search that stops early.
use Rattle.std.proofs.Common.{ℕ, zero, suc, ◌≡◌, ◌==◌, ◌<◌, ◌≤◌, Bool, true, false, ◌||◌, List, [], ◌∷◌, length, get_or, slice_get, Some, None, refl, sym, ap, ◌∙◌, inl, inr, arith}
use Rattle.std.specs.List.{list_any}
use Rattle.std.proofs.lemmas.Bool.{cases_lt}
use Rattle.std.proofs.lemmas.Bool.Decides.{nat_tests}
use Rattle.std.proofs.lemmas.Option.{same_Some, get_or_from_slice_get, slice_get-get_or, slice_get_within}
use Rattle.workers.specs.Reuse.{tells, Rises, IsNextTold}

or_true : (b : Bool) → (b || true) ≡ true
or_true true = refl
or_true false = refl

pub any_none : (xs : List ℕ) (n : ℕ) → ((j y : ℕ) → slice_get xs j ≡ Some y → (y == n) ≡ false) → list_any (λ (m : ℕ). m == n) xs ≡ false
any_none [] n h = refl
any_none (x ∷ xs) n h = ap (λ (b : Bool). b || list_any (λ (m : ℕ). m == n) xs) (h 0 x refl) ∙ any_none xs n (λ j y there. h (suc j) y there)

pub any_some : (xs : List ℕ) (n j : ℕ) → slice_get xs j ≡ Some n → list_any (λ (m : ℕ). m == n) xs ≡ true
any_some [] n j there = absurd (let bad : None ≡ Some n = there in cc)
any_some (x ∷ xs) n zero there =
    let same : x ≡ n = same_Some x n there in
    ap (λ (b : Bool). b || list_any (λ (m : ℕ). m == n) xs) (let is : (x == n) ≡ true = grind (arith, nat_tests) in is)
any_some (x ∷ xs) n (suc j) there = ap (λ (b : Bool). (x == n) || b) (any_some xs n j there) ∙ or_true (x == n)

not_same : (y n : ℕ) → y < n → (y == n) ≡ false
not_same y n lt = grind (arith, nat_tests)

not_same_above : (y n : ℕ) → n < y → (y == n) ≡ false
not_same_above y n lt = grind (arith, nat_tests)

-- what is before a place, and what is from it on
below : (xs : List ℕ) (m i j y : ℕ) → ((k : ℕ) → k < i → get_or xs k 0 ≤ m) → j < i → slice_get xs j ≡ Some y → y ≤ m
below xs m i j y before lt there = omega (arith, before j lt, get_or_from_slice_get xs j y 0 there)

from_on : (xs : List ℕ) (i j y : ℕ) → Rises xs → i < length xs → i ≤ j → slice_get xs j ≡ Some y → get_or xs i 0 ≤ y
from_on xs i j y rises within le there = elim (cases_lt i j) [
  | inl lt ↦ let more = rises i j (get_or xs i 0) y lt (slice_get-get_or xs i 0 within) there in omega arith
  | inr past ↦
      let same : j ≡ i = omega arith in
      let is : get_or xs j 0 ≡ y = get_or_from_slice_get xs j y 0 there in
      omega (arith, is, ap (λ (k : ℕ). get_or xs k 0) same)
]

-- a number is in the list where the first that isn't below it is that number
pub has_at : (xs : List ℕ) (n i : ℕ) → Rises xs → ((k : ℕ) → k < i → get_or xs k 0 < n) → i < length xs → n ≤ get_or xs i 0 → (get_or xs i 0 == n) ≡ tells (Some xs) n
has_at xs n i rises before within le = by (get_or xs i 0 == n) refl
  where
    by : (b : Bool) → (get_or xs i 0 == n) ≡ b → b ≡ list_any (λ (m : ℕ). m == n) xs
    by true e =
        let same : get_or xs i 0 ≡ n = grind (arith, nat_tests) in
        sym (any_some xs n i (slice_get-get_or xs i 0 within ∙ ap (λ (k : ℕ). Some k) same))
    by false e = sym (any_none xs n (λ j y there. elim (cases_lt j i) [
      | inl lt ↦ let small = before j lt in not_same y n (omega (arith, small, get_or_from_slice_get xs j y 0 there))
      | inr past ↦
          let more = from_on xs i j y rises within past there in
          let other : n < get_or xs i 0 = grind (arith, nat_tests) in
          not_same_above y n (omega (arith, more, other))
    ]))

-- and in none whose numbers are all below it
pub has_none : (xs : List ℕ) (n : ℕ) → ((k : ℕ) → k < length xs → get_or xs k 0 < n) → false ≡ tells (Some xs) n
has_none xs n all = sym (any_none xs n (λ j y there.
    let small = all j (slice_get_within xs j y there) in
    not_same y n (omega (arith, small, get_or_from_slice_get xs j y 0 there))))

-- the first that is above a number
pub above_at : (xs : List ℕ) (n i : ℕ) → Rises xs → ((k : ℕ) → k < i → get_or xs k 0 ≤ n) → i < length xs → n < get_or xs i 0 → IsNextTold (Some xs) n (Some (get_or xs i 0))
above_at xs n i rises before within lt = (
  lt,
  any_some xs (get_or xs i 0) i (slice_get-get_or xs i 0 within),
  λ m more less. any_none xs m (λ j y there. elim (cases_lt j i) [
    | inl low ↦ let small = before j low in not_same y m (omega (arith, small, more, get_or_from_slice_get xs j y 0 there))
    | inr past ↦ let large = from_on xs i j y rises within past there in not_same_above y m (omega (arith, large, less))
  ]),
)

pub above_none : (xs : List ℕ) (n : ℕ) → ((k : ℕ) → k < length xs → get_or xs k 0 ≤ n) → IsNextTold (Some xs) n None
above_none xs n all m more = any_none xs m (λ j y there.
    let small = all j (slice_get_within xs j y there) in
    not_same y m (omega (arith, small, more, get_or_from_slice_get xs j y 0 there)))
