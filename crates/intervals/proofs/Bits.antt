-- Bits and shifts: each result holds what it has to, is a range of the width, and is smaller for
-- smaller operands.
use Rattle.std.proofs.Common.{ℕ, ◌≡◌, ◌+◌, ◌-◌, ◌*◌, ◌/◌, ◌%◌, ◌^◌, ◌<◌, ◌≤◌, bit_and, bit_or, bit_xor, sym, ap, max, arith}
use Rattle.std.proofs.lemmas.Bool.Decides.{nat_tests}
use Rattle.std.proofs.lemmas.Nat.{and_le_l, and_le_r, or_lt, xor_lt, pow_pos}
use Rattle.std.proofs.Math.Nat.{mod-lt, mod-eq_of_lt, div-le_self, mul-le-mul_right}
use Rattle.intervals.specs.Spans.{Span, IsSpan, Has, Within}
use Rattle.intervals.specs.Operators.{bits_of_both, bits_of_either, shifted_left, shifted_right}
use Rattle.intervals.proofs.Digits.{digits, ceiling_fits, ceiling_mono}
use Rattle.intervals.proofs.Quotients.{div_mono}

pub bits_of_both_has : (x y : Span) (a b : ℕ) → Has x a → Has y b → Has (bits_of_both x y) (bit_and a b)
unfolding bits_of_both
bits_of_both_has x y a b h k = record { from = omega arith; upto = omega (arith, and_le_l a b, and_le_r a b, h.upto, k.upto) }

pub bits_of_both_fits : (m : ℕ) (x y : Span) → IsSpan m x → IsSpan m (bits_of_both x y)
unfolding bits_of_both
bits_of_both_fits m x y hx = record { ordered = omega arith; most = omega (arith, hx.most) }

pub bits_of_both_mono : (x y s t : Span) → Within x s → Within y t → Within (bits_of_both x y) (bits_of_both s t)
unfolding bits_of_both
bits_of_both_mono x y s t a b = record { from = omega arith; upto = omega (arith, a.upto, b.upto) }

-- two numbers of some digits, either with its bits
pub bits_of_either_has_or : (x y : Span) (a b : ℕ) → x.high < 2 ^ 64 → y.high < 2 ^ 64 → Has x a → Has y b → Has (bits_of_either x y) (bit_or a b)
unfolding bits_of_either
bits_of_either_has_or x y a b hx hy h k =
    let d = digits (max x.high y.high) (omega (arith, hx, hy)) in
    let less = or_lt d.count a b (omega (arith, d.fits, h.upto)) (omega (arith, d.fits, k.upto)) in
    record { from = omega arith; upto = omega (arith, less, d.ceiling_is) }

pub bits_of_either_has_xor : (x y : Span) (a b : ℕ) → x.high < 2 ^ 64 → y.high < 2 ^ 64 → Has x a → Has y b → Has (bits_of_either x y) (bit_xor a b)
unfolding bits_of_either
bits_of_either_has_xor x y a b hx hy h k =
    let d = digits (max x.high y.high) (omega (arith, hx, hy)) in
    let less = xor_lt d.count a b (omega (arith, d.fits, h.upto)) (omega (arith, d.fits, k.upto)) in
    record { from = omega arith; upto = omega (arith, less, d.ceiling_is) }

pub bits_of_either_fits : (bits : ℕ) (x y : Span) → x.high < 2 ^ 64 → y.high < 2 ^ 64 → IsSpan (2 ^ bits - 1) x → IsSpan (2 ^ bits - 1) y
    → IsSpan (2 ^ bits - 1) (bits_of_either x y)
unfolding bits_of_either
bits_of_either_fits bits x y hx hy p q =
    let less = ceiling_fits (max x.high y.high) bits (omega (arith, hx, hy)) (omega (arith, p.most, q.most, pow_pos bits)) in
    record { ordered = omega arith; most = omega (arith, less) }

pub bits_of_either_mono : (x y s t : Span) → s.high < 2 ^ 64 → t.high < 2 ^ 64 → Within x s → Within y t → Within (bits_of_either x y) (bits_of_either s t)
unfolding bits_of_either
bits_of_either_mono x y s t hs ht a b =
    record { from = omega arith; upto = ceiling_mono (max x.high y.high) (max s.high t.high) (omega (arith, a.upto, b.upto)) (omega (arith, hs, ht)) }

-- the factor of a count is that of every count in the range of one number
factor_same : (bits b : ℕ) (y : Span) → Has y b → y.low ≡ y.high → 2 ^ (b % bits) ≡ 2 ^ (y.low % bits)
factor_same bits b y k e = ap (λ c. 2 ^ (c % bits)) (omega (arith, k.from, k.upto, e))

pub shifted_left_has : (m n bits : ℕ) (x y : Span) (a b : ℕ) → m + 1 ≡ n → Has x a → Has y b
    → Has (shifted_left m bits x y) ((a * 2 ^ (b % bits)) % n)
unfolding shifted_left
shifted_left_has m n bits x y a b one h k =
    let factor = 2 ^ (y.low % bits) in
    let least : x.low * 2 ^ (y.low % bits) ≤ a * 2 ^ (y.low % bits) = mul-le-mul_right (2 ^ (y.low % bits)) h.from in
    let greatest : a * 2 ^ (y.low % bits) ≤ x.high * 2 ^ (y.low % bits) = mul-le-mul_right (2 ^ (y.low % bits)) h.upto in
    let small : (a * 2 ^ (b % bits)) % n < n = mod-lt (a * 2 ^ (b % bits)) (omega (arith, one)) in
    let same : y.low ≡ y.high → a * 2 ^ (b % bits) ≡ a * 2 ^ (y.low % bits) = λ e. ap (λ f. a * f) (factor_same bits b y k e) in
    let whole : a * 2 ^ (b % bits) < n → (a * 2 ^ (b % bits)) % n ≡ a * 2 ^ (b % bits) = λ less. mod-eq_of_lt less in
    record { from = grind (arith, nat_tests); upto = grind (arith, nat_tests) }

pub shifted_left_fits : (m bits : ℕ) (x y : Span) → IsSpan m x → IsSpan m (shifted_left m bits x y)
unfolding shifted_left
shifted_left_fits m bits x y hx =
    let order : x.low * 2 ^ (y.low % bits) ≤ x.high * 2 ^ (y.low % bits) = mul-le-mul_right (2 ^ (y.low % bits)) hx.ordered in
    record { ordered = grind (arith, nat_tests); most = grind (arith, nat_tests) }

pub shifted_left_mono : (m bits : ℕ) (x y s t : Span) → IsSpan m x → IsSpan m y → Within x s → Within y t
    → Within (shifted_left m bits x y) (shifted_left m bits s t)
unfolding shifted_left
shifted_left_mono m bits x y s t hx hy a b =
    let least : s.low * 2 ^ (y.low % bits) ≤ x.low * 2 ^ (y.low % bits) = mul-le-mul_right (2 ^ (y.low % bits)) a.from in
    let greatest : x.high * 2 ^ (y.low % bits) ≤ s.high * 2 ^ (y.low % bits) = mul-le-mul_right (2 ^ (y.low % bits)) a.upto in
    let order : x.low * 2 ^ (y.low % bits) ≤ x.high * 2 ^ (y.low % bits) = mul-le-mul_right (2 ^ (y.low % bits)) hx.ordered in
    let same : t.low ≡ t.high → y.low ≡ t.low = λ e. omega (arith, e, b.from, b.upto, hy.ordered) in
    let first : t.low ≡ t.high → s.low * 2 ^ (t.low % bits) ≡ s.low * 2 ^ (y.low % bits) = λ e. ap (λ c. s.low * 2 ^ (c % bits)) (sym (same e)) in
    let last : t.low ≡ t.high → s.high * 2 ^ (t.low % bits) ≡ s.high * 2 ^ (y.low % bits) = λ e. ap (λ c. s.high * 2 ^ (c % bits)) (sym (same e)) in
    record { from = grind (arith, nat_tests, b.from, b.upto, hy.ordered); upto = grind (arith, nat_tests, b.from, b.upto, hy.ordered) }

pub shifted_right_has : (bits : ℕ) (x y : Span) (a b : ℕ) → Has x a → Has y b → Has (shifted_right bits x y) (a / 2 ^ (b % bits))
unfolding shifted_right
shifted_right_has bits x y a b h k =
    let least : x.low / 2 ^ (y.low % bits) ≤ a / 2 ^ (y.low % bits) = div_mono _ _ (2 ^ (y.low % bits)) h.from in
    let greatest : a / 2 ^ (y.low % bits) ≤ x.high / 2 ^ (y.low % bits) = div_mono _ _ (2 ^ (y.low % bits)) h.upto in
    let small : a / 2 ^ (b % bits) ≤ a = div-le_self a (2 ^ (b % bits)) in
    let same : y.low ≡ y.high → a / 2 ^ (b % bits) ≡ a / 2 ^ (y.low % bits) = λ e. ap (λ f. a / f) (factor_same bits b y k e) in
    record { from = grind (arith, nat_tests, h.upto); upto = grind (arith, nat_tests, h.upto) }

pub shifted_right_fits : (m bits : ℕ) (x y : Span) → IsSpan m x → IsSpan m (shifted_right bits x y)
unfolding shifted_right
shifted_right_fits m bits x y hx =
    let order : x.low / 2 ^ (y.low % bits) ≤ x.high / 2 ^ (y.low % bits) = div_mono _ _ (2 ^ (y.low % bits)) hx.ordered in
    let small : x.high / 2 ^ (y.low % bits) ≤ x.high = div-le_self x.high (2 ^ (y.low % bits)) in
    record { ordered = grind (arith, nat_tests, hx.ordered, hx.most); most = grind (arith, nat_tests, hx.ordered, hx.most) }

pub shifted_right_mono : (m bits : ℕ) (x y s t : Span) → IsSpan m x → IsSpan m y → Within x s → Within y t
    → Within (shifted_right bits x y) (shifted_right bits s t)
unfolding shifted_right
shifted_right_mono m bits x y s t hx hy a b =
    let least : s.low / 2 ^ (y.low % bits) ≤ x.low / 2 ^ (y.low % bits) = div_mono _ _ (2 ^ (y.low % bits)) a.from in
    let greatest : x.high / 2 ^ (y.low % bits) ≤ s.high / 2 ^ (y.low % bits) = div_mono _ _ (2 ^ (y.low % bits)) a.upto in
    let small : x.high / 2 ^ (y.low % bits) ≤ x.high = div-le_self x.high (2 ^ (y.low % bits)) in
    let same : t.low ≡ t.high → y.low ≡ t.low = λ e. omega (arith, e, b.from, b.upto, hy.ordered) in
    let first : t.low ≡ t.high → s.low / 2 ^ (t.low % bits) ≡ s.low / 2 ^ (y.low % bits) = λ e. ap (λ c. s.low / 2 ^ (c % bits)) (sym (same e)) in
    let last : t.low ≡ t.high → s.high / 2 ^ (t.low % bits) ≡ s.high / 2 ^ (y.low % bits) = λ e. ap (λ c. s.high / 2 ^ (c % bits)) (sym (same e)) in
    record {
      from = grind (arith, nat_tests, a.from, a.upto, b.from, b.upto, hy.ordered);
      upto = grind (arith, nat_tests, a.from, a.upto, b.from, b.upto, hy.ordered);
    }
