-- Quotients and remainders, of the machine's kind: by zero the quotient is zero, and the remainder is
-- the first number.
use Rattle.std.proofs.Common.{ℕ, zero, suc, ◌≡◌, ◌/◌, ◌%◌, ◌<◌, ◌≤◌, ◌==◌, if◌then◌else◌, ap, arith}
use Rattle.std.proofs.lemmas.Nat.{le-div}
use Rattle.std.proofs.lemmas.Bool.Decides.{nat_tests}
use Rattle.std.proofs.Math.Nat.{mod-lt, mod-le, mod-eq_of_lt, div-le_self, div-zero, div-mul-le_self}
use Rattle.intervals.specs.Spans.{Span, IsSpan, Has, Within}
use Rattle.intervals.specs.Operators.{quotient_of, remaining}

abbrev pub quotient : ℕ → ℕ → ℕ
quotient a b = if b == 0 then 0 else a / b

abbrev pub remainder : ℕ → ℕ → ℕ
remainder a b = if b == 0 then a else a % b

pub div_mono : (a b k : ℕ) → a ≤ b → a / k ≤ b / k
div_mono a b zero le = omega (arith, div-zero a, div-zero b)
div_mono a b (suc k) le = le-div (a / suc k) b (suc k) (omega arith) (omega (arith, div-mul-le_self a (suc k), le))

pub divided_has : (x y : Span) (a b : ℕ) → Has x a → Has y b → Has (quotient_of x y) (quotient a b)
unfolding quotient_of
divided_has x y a b h k =
    let least : x.low / y.low ≤ a / y.low = div_mono _ _ y.low h.from in
    let greatest : a / y.low ≤ x.high / y.low = div_mono _ _ y.low h.upto in
    let small : a / b ≤ a = div-le_self a b in
    let same : y.low ≡ y.high → a / b ≡ a / y.low = λ e. ap (λ n. a / n) (omega (arith, e, k.from, k.upto)) in
    record { from = grind (arith, nat_tests, h.from, h.upto, k.from, k.upto); upto = grind (arith, nat_tests, h.from, h.upto, k.from, k.upto) }

pub divided_fits : (m : ℕ) (x y : Span) → IsSpan m x → IsSpan m (quotient_of x y)
unfolding quotient_of
divided_fits m x y hx =
    let order : x.low / y.low ≤ x.high / y.low = div_mono _ _ y.low hx.ordered in
    let small : x.high / y.low ≤ x.high = div-le_self x.high y.low in
    record { ordered = grind (arith, nat_tests, hx.ordered, hx.most); most = grind (arith, nat_tests, hx.ordered, hx.most) }

pub divided_mono : (m : ℕ) (x y s t : Span) → IsSpan m x → IsSpan m y → Within x s → Within y t → Within (quotient_of x y) (quotient_of s t)
unfolding quotient_of
divided_mono m x y s t hx hy a b =
    let least : s.low / t.low ≤ x.low / t.low = div_mono _ _ t.low a.from in
    let greatest : x.high / t.low ≤ s.high / t.low = div_mono _ _ t.low a.upto in
    let small : x.high / y.low ≤ x.high = div-le_self x.high y.low in
    let same : t.low ≡ t.high → y.low ≡ t.low = λ e. omega (arith, e, b.from, b.upto, hy.ordered) in
    let first : t.low ≡ t.high → x.low / y.low ≡ x.low / t.low = λ e. ap (λ n. x.low / n) (same e) in
    let last : t.low ≡ t.high → x.high / y.low ≡ x.high / t.low = λ e. ap (λ n. x.high / n) (same e) in
    record { from = grind (arith, nat_tests, hy.ordered, a.from, a.upto, b.from, b.upto); upto = grind (arith, nat_tests, hy.ordered, a.from, a.upto, b.from, b.upto) }

pub remaining_has : (x y : Span) (a b : ℕ) → Has x a → Has y b → Has (remaining x y) (remainder a b)
unfolding remaining
remaining_has x y a b h k =
    let small : a % b ≤ a = mod-le a b in
    let less : 0 < b → a % b < b = λ p. mod-lt a p in
    let same : a < b → a % b ≡ a = λ p. mod-eq_of_lt p in
    record { from = grind (arith, nat_tests, h.from, h.upto, k.from, k.upto); upto = grind (arith, nat_tests, h.from, h.upto, k.from, k.upto) }

pub remaining_fits : (m : ℕ) (x y : Span) → IsSpan m x → IsSpan m y → IsSpan m (remaining x y)
unfolding remaining
remaining_fits m x y hx hy =
    record { ordered = grind (arith, nat_tests, hx.ordered, hx.most, hy.ordered, hy.most); most = grind (arith, nat_tests, hx.ordered, hx.most, hy.ordered, hy.most) }

pub remaining_mono : (m : ℕ) (x y s t : Span) → IsSpan m x → IsSpan m y → Within x s → Within y t → Within (remaining x y) (remaining s t)
unfolding remaining
remaining_mono m x y s t hx hy a b =
    record {
      from = grind (arith, nat_tests, hx.ordered, hy.ordered, a.from, a.upto, b.from, b.upto);
      upto = grind (arith, nat_tests, hx.ordered, hy.ordered, a.from, a.upto, b.from, b.upto);
    }
