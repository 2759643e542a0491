-- Numbers between two others, of numbers in their order.
use Rattle.std.proofs.Common.{ℕ, None, if◌then◌else◌, zero, suc, ◌≡◌, ◌+◌, ◌-◌, ◌<◌, ◌≤◌, Bool, true, false, List, [], ◌∷◌, length, filter, take, drop, slice_get, Some, refl, sym, ◌∙◌, ap, inl, inr, arith}
use Rattle.std.specs.List.{slice_index_or}
use Rattle.std.proofs.lemmas.Bool.{cases_lt}
use Rattle.std.proofs.lemmas.Bool.Decides.{nat_tests}
use Rattle.choices.specs.Choices.{ranked_at}
use Rattle.choices.specs.Sums.{StartsValue}
use Rattle.losses.specs.Failures.{is_below, is_between, AreInOrder, AreImages, AreOfCut}

-- that many numbers are below the bound, and no others
pub record AreBelow (xs : List ℕ) (bound count : ℕ) : Type 0 where
  pub within : count ≤ length xs
  pub before : (k d : ℕ) → k < count → slice_index_or xs k d < bound
  pub beyond : (k d : ℕ) → count ≤ k → k < length xs → bound ≤ slice_index_or xs k d

inside : (first end x : ℕ) → first ≤ x → x < end → is_between first end x ≡ true
inside first end x low high = grind (arith, nat_tests, low, high)

outside_low : (first end x : ℕ) → x < first → is_between first end x ≡ false
outside_low first end x low = grind (arith, nat_tests, low)

outside_high : (first end x : ℕ) → end ≤ x → is_between first end x ≡ false
outside_high first end x high = grind (arith, nat_tests, high)

stays : (p : ℕ → Bool) (x : ℕ) (xs : List ℕ) → p x ≡ true → x ∷ filter p xs ≡ filter p (x ∷ xs)
stays p x xs e = rw e refl

leaves : (p : ℕ → Bool) (x : ℕ) (xs : List ℕ) → p x ≡ false → filter p xs ≡ filter p (x ∷ xs)
leaves p x xs e = rw e refl

-- the same without the first number
later : (x : ℕ) (xs : List ℕ) (bound count : ℕ) → AreBelow (x ∷ xs) bound (suc count) → AreBelow xs bound count
later x xs bound count are =
    record {
      within = let w = are.within in omega (arith, w);
      before = λ k d lt. are.before (suc k) d (omega (arith, lt));
      beyond = λ k d le lt. are.beyond (suc k) d (omega (arith, le)) (omega (arith, lt));
    }

none_later : (x : ℕ) (xs : List ℕ) (bound : ℕ) → AreBelow (x ∷ xs) bound 0 → AreBelow xs bound 0
none_later x xs bound are =
    record {
      within = omega arith;
      before = λ k d lt. absurd (omega (arith, lt));
      beyond = λ k d le lt. are.beyond (suc k) d (omega arith) (omega (arith, lt));
    }

pub between_is : (xs : List ℕ) (first end begin beyond : ℕ) → first ≤ end → AreBelow xs first begin → AreBelow xs end beyond
    → take (beyond - begin) (drop begin xs) ≡ filter (is_between first end) xs
between_is [] first end zero zero le low high = refl
between_is [] first end zero (suc m) le low high = absurd (let w = high.within in omega (arith, w))
between_is [] first end (suc n) m le low high = absurd (let w = low.within in omega (arith, w))
between_is (x ∷ xs) first end zero zero le low high =
    let out = outside_high first end x (high.beyond 0 0 (omega arith) (omega arith)) in
    between_is xs first end zero zero le (none_later x xs first low) (none_later x xs end high) ∙ leaves (is_between first end) x xs out
between_is (x ∷ xs) first end zero (suc m) le low high =
    let in_it = inside first end x (low.beyond 0 0 (omega arith) (omega arith)) (high.before 0 0 (omega arith)) in
    let so : suc m - 0 ≡ suc (m - 0) = omega arith in
    ap (λ n. take n (x ∷ xs)) so
    ∙ ap (λ (ys : List ℕ). x ∷ ys) (between_is xs first end zero m le (none_later x xs first low) (later x xs end m high))
    ∙ stays (is_between first end) x xs in_it
between_is (x ∷ xs) first end (suc n) zero le low high =
    absurd (let a = low.before 0 0 (omega arith) in let b = high.beyond 0 0 (omega arith) (omega arith) in omega (arith, a, b, le))
between_is (x ∷ xs) first end (suc n) (suc m) le low high =
    let out = outside_low first end x (low.before 0 0 (omega arith)) in
    let so : suc m - suc n ≡ m - n = omega arith in
    ap (λ k. take k (drop n xs)) so ∙ between_is xs first end n m le (later x xs first n low) (later x xs end m high) ∙ leaves (is_between first end) x xs out

-- and that many are below the first bound
pub below_is : (xs : List ℕ) (bound count : ℕ) → AreBelow xs bound count → count ≡ length (filter (is_below bound) xs)
below_is [] bound count are = let w = are.within in omega (arith, w)
below_is (x ∷ xs) bound zero are =
    let high = are.beyond 0 0 (omega arith) (omega arith) in
    let out : is_below bound x ≡ false = grind (arith, nat_tests, high) in
    let rest = below_is xs bound zero (none_later x xs bound are) in
    rest ∙ ap (λ (ys : List ℕ). length ys) (leaves (is_below bound) x xs out)
below_is (x ∷ xs) bound (suc n) are =
    let low = are.before 0 0 (omega arith) in
    let in_it : is_below bound x ≡ true = grind (arith, nat_tests, low) in
    let rest = below_is xs bound n (later x xs bound n are) in
    let more = ap (λ (ys : List ℕ). length ys) (stays (is_below bound) x xs in_it) in
    let one : suc n ≡ length (x ∷ filter (is_below bound) xs) = omega (arith, rest) in
    one ∙ more

-- those below a bound and those after it are no more than all
pub parts_few : (first end : ℕ) (xs : List ℕ) → length (filter (is_below first) xs) + length (filter (is_between first end) xs) ≤ length xs
parts_few first end [] = omega arith
parts_few first end (x ∷ xs) =
    let rest = parts_few first end xs in
    elim (cases_lt x first) [
      | inl low ↦
          let is : is_below first x ≡ true = grind (arith, nat_tests, low) in
          let a = ap (λ (ys : List ℕ). length ys) (stays (is_below first) x xs is) in
          let b = ap (λ (ys : List ℕ). length ys) (leaves (is_between first end) x xs (outside_low first end x low)) in
          omega (arith, rest, a, b)
      | inr ge ↦
          let is : is_below first x ≡ false = grind (arith, nat_tests, ge) in
          let a = ap (λ (ys : List ℕ). length ys) (leaves (is_below first) x xs is) in
          elim (cases_lt x end) [
            | inl less ↦
                let b = ap (λ (ys : List ℕ). length ys) (stays (is_between first end) x xs (inside first end x ge less)) in
                omega (arith, rest, a, b)
            | inr past ↦
                let b = ap (λ (ys : List ℕ). length ys) (leaves (is_between first end) x xs (outside_high first end x past)) in
                omega (arith, rest, a, b)
          ]
    ]

-- what a filter leaves stands in the list
pub left_in : (p : ℕ → Bool) (xs : List ℕ) (i n : ℕ) → slice_get (filter p xs) i ≡ Some n → (k : ℕ) × (slice_get xs k ≡ Some n) × (p n ≡ true)
left_in p [] i n at = absurd (let bad : None ≡ Some n = at in cc)
left_in p (x ∷ xs) i n at = by_test (λ j there. left_in p xs j n there) (p x) refl i at
  where
    by_test : ((j : ℕ) → slice_get (filter p xs) j ≡ Some n → (k : ℕ) × (slice_get xs k ≡ Some n) × (p n ≡ true)) → (b : Bool) → p x ≡ b → (i : ℕ)
        → slice_get (if b then x ∷ filter p xs else filter p xs) i ≡ Some n → (k : ℕ) × (slice_get (x ∷ xs) k ≡ Some n) × (p n ≡ true)
    by_test inner true e zero at = let same : Some x ≡ Some n = at in let is : x ≡ n = cc in (0, same, ap p (sym is) ∙ e)
    by_test inner true e (suc i) at = let was = inner i at in (suc was.0, was.1, was.2)
    by_test inner false e i at = let was = inner i at in (suc was.0, was.1, was.2)

-- and keeps its order
order_left : (p : ℕ → Bool) (xs : List ℕ) → AreInOrder xs → AreInOrder (filter p xs)
order_left p [] are i j n m lt ati atj = absurd (let bad : None ≡ Some n = ati in cc)
order_left p (x ∷ xs) are i j n m lt ati atj =
    by_test (order_left p xs (λ k l a b less atk atl. are (suc k) (suc l) a b (omega (arith, less)) atk atl)) (p x) i j lt ati atj
  where
    by_test : AreInOrder (filter p xs) → (b : Bool) (i j : ℕ) → i < j → slice_get (if b then x ∷ filter p xs else filter p xs) i ≡ Some n
        → slice_get (if b then x ∷ filter p xs else filter p xs) j ≡ Some m → n < m
    by_test inner false i j lt ati atj = inner i j n m lt ati atj
    by_test inner true i zero lt ati atj = absurd (omega (arith, lt))
    by_test inner true zero (suc j) lt ati atj =
        let same : Some x ≡ Some n = ati in
        let is : x ≡ n = cc in
        let there = left_in p xs j m atj in
        let less = are 0 (suc there.0) x m (omega arith) refl there.1 in
        omega (arith, is, less)
    by_test inner true (suc i) (suc j) lt ati atj = inner i j n m (omega (arith, lt)) ati atj

between_low : (first end n : ℕ) → is_between first end n ≡ true → first ≤ n
between_low first end n e = grind (arith, nat_tests, e)

between_high : (first end n : ℕ) → is_between first end n ≡ true → n < end
between_high first end n e = grind (arith, nat_tests, e)

-- the failing images of a cut
pub of_cut : (s : StartsValue) (failing images : List ℕ) (cut first end : ℕ) → AreImages s failing → images ≡ filter (is_between first end) failing
    → end ≡ first + length (ranked_at s.plan s.bound s.tears cut) → AreOfCut s cut first images
of_cut s failing images cut first end are is own =
    rw is (record {
      ordered = order_left (is_between first end) failing are.ordered;
      low = λ i n at. between_low first end n (left_in (is_between first end) failing i n at).2;
      high = λ i n at. let below = between_high first end n (left_in (is_between first end) failing i n at).2 in omega (arith, below, own);
    })
