-- Sums, differences and products: each holds what it has to, is a range of the width, and is smaller
-- for smaller operands.
use Rattle.std.proofs.Common.{ℕ, ◌≡◌, ◌+◌, ◌-◌, ◌*◌, ◌%◌, ◌<◌, ◌≤◌, ◌⊎◌, inl, inr, arith}
use Rattle.std.proofs.lemmas.Bool.{cases_lt}
use Rattle.std.proofs.lemmas.Bool.Decides.{nat_tests}
use Rattle.std.proofs.Math.Nat.{mod-lt, mod-eq_of_lt, mod-eq-sub-mod, mul-le-mul}
use Rattle.intervals.specs.Spans.{Span, IsSpan, Has, Within}
use Rattle.intervals.specs.Operators.{sum_of, difference_of, product_of}

-- a number below twice the count of numbers, in the width
record Wrapped (m v w : ℕ) : Type 0 where
  pub most : w ≤ m
  pub is : ((v ≤ m) × (w ≡ v)) ⊎ ((m < v) × (w + (m + 1) ≡ v))

wrapped : (m n v : ℕ) → m + 1 ≡ n → v ≤ m + n → Wrapped m v (v % n)
wrapped m n v one h =
    elim (cases_lt v n) [
      | inl less ↦ let e : v % n ≡ v = mod-eq_of_lt less in record { most = omega (arith, e, less, one); is = inl (omega (arith, less, one), e) }
      | inr more ↦
          let e : v % n ≡ (v - n) % n = mod-eq-sub-mod more in
          let f : (v - n) % n ≡ v - n = mod-eq_of_lt (omega (arith, h, more, one)) in
          record { most = omega (arith, e, f, h, more, one); is = inr (omega (arith, more, one), omega (arith, e, f, more, one)) }
    ]

-- n is how many numbers the width has
pub added_has : (m n : ℕ) (x y : Span) (a b : ℕ) → m + 1 ≡ n → IsSpan m x → IsSpan m y → Has x a → Has y b
    → Has (sum_of m x y) ((a + b) % n)
unfolding sum_of
added_has m n x y a b one hx hy h k =
    let w = wrapped m n (a + b) one (omega (arith, h.upto, k.upto, hx.most, hy.most, one)) in
    record {
      from = grind (arith, nat_tests, w.most, w.is, h.from, h.upto, k.from, k.upto);
      upto = grind (arith, nat_tests, w.most, w.is, h.from, h.upto, k.from, k.upto);
    }

pub added_fits : (m : ℕ) (x y : Span) → IsSpan m x → IsSpan m y → IsSpan m (sum_of m x y)
unfolding sum_of
added_fits m x y hx hy =
    record {
      ordered = grind (arith, nat_tests, hx.ordered, hy.ordered, hx.most, hy.most);
      most = grind (arith, nat_tests, hx.ordered, hy.ordered, hx.most, hy.most);
    }

pub added_mono : (m : ℕ) (x y s t : Span) → IsSpan m x → IsSpan m y → IsSpan m s → IsSpan m t → Within x s → Within y t
    → Within (sum_of m x y) (sum_of m s t)
unfolding sum_of
added_mono m x y s t hx hy hs ht a b =
    record { from = grind (arith, nat_tests); upto = grind (arith, nat_tests) }

pub subtracted_has : (m n : ℕ) (x y : Span) (a b : ℕ) → m + 1 ≡ n → IsSpan m x → IsSpan m y → Has x a → Has y b
    → Has (difference_of m x y) ((a + (n - b)) % n)
unfolding difference_of
subtracted_has m n x y a b one hx hy h k =
    let w = wrapped m n (a + (n - b)) one (omega (arith, h.upto, hx.most)) in
    record {
      from = grind (arith, nat_tests, w.most, w.is, h.from, h.upto, k.from, k.upto, hy.most);
      upto = grind (arith, nat_tests, w.most, w.is, h.from, h.upto, k.from, k.upto, hy.most);
    }

pub subtracted_fits : (m : ℕ) (x y : Span) → IsSpan m x → IsSpan m y → IsSpan m (difference_of m x y)
unfolding difference_of
subtracted_fits m x y hx hy =
    record {
      ordered = grind (arith, nat_tests, hx.ordered, hy.ordered, hx.most, hy.most);
      most = grind (arith, nat_tests, hx.ordered, hy.ordered, hx.most, hy.most);
    }

pub subtracted_mono : (m : ℕ) (x y s t : Span) → IsSpan m x → IsSpan m y → IsSpan m s → IsSpan m t → Within x s → Within y t
    → Within (difference_of m x y) (difference_of m s t)
unfolding difference_of
subtracted_mono m x y s t hx hy hs ht a b =
    record { from = grind (arith, nat_tests); upto = grind (arith, nat_tests) }

pub multiplied_has : (m n : ℕ) (x y : Span) (a b : ℕ) → m + 1 ≡ n → Has x a → Has y b → Has (product_of m x y) ((a * b) % n)
unfolding product_of
multiplied_has m n x y a b one h k =
    let least : x.low * y.low ≤ a * b = mul-le-mul h.from k.from in
    let greatest : a * b ≤ x.high * y.high = mul-le-mul h.upto k.upto in
    let small : (a * b) % n < n = mod-lt (a * b) (omega (arith, one)) in
    let same : a * b < n → (a * b) % n ≡ a * b = λ less. mod-eq_of_lt less in
    record { from = grind (arith, nat_tests); upto = grind (arith, nat_tests) }

pub multiplied_fits : (m : ℕ) (x y : Span) → IsSpan m x → IsSpan m y → IsSpan m (product_of m x y)
unfolding product_of
multiplied_fits m x y hx hy =
    let order : x.low * y.low ≤ x.high * y.high = mul-le-mul hx.ordered hy.ordered in
    record { ordered = grind (arith, nat_tests); most = grind (arith, nat_tests) }

pub multiplied_mono : (m : ℕ) (x y s t : Span) → IsSpan m x → IsSpan m y → Within x s → Within y t
    → Within (product_of m x y) (product_of m s t)
unfolding product_of
multiplied_mono m x y s t hx hy a b =
    let least : s.low * t.low ≤ x.low * y.low = mul-le-mul a.from b.from in
    let greatest : x.high * y.high ≤ s.high * t.high = mul-le-mul a.upto b.upto in
    let order : x.low * y.low ≤ x.high * y.high = mul-le-mul hx.ordered hy.ordered in
    record { from = grind (arith, nat_tests); upto = grind (arith, nat_tests) }
