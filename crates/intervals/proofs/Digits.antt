-- The binary digits of a word, by which ranges are rounded.
use Rattle.std.proofs.Common.{ℕ, zero, suc, ◌≡◌, ◌+◌, ◌-◌, ◌*◌, ◌/◌, ◌%◌, ◌^◌, ◌<◌, ◌≤◌, refl, sym, ◌∙◌, ap, inl, inr, arith}
use Rattle.std.specs.Int.{leading_zeros, w64}
use Rattle.std.specs.Int.Count.{leading_of_zero}
use Rattle.std.proofs.lemmas.Nat.{leading_top, leading_length, pow_pos, pow-add}
use Rattle.std.proofs.lemmas.Bool.{cases_lt}
use Rattle.std.proofs.lemmas.Bool.Decides.{nat_tests}
use Rattle.std.proofs.Math.Numerals.{add-one}
use Rattle.std.proofs.Math.Nat.{mod-le, pow-suc, mul-suc, suc-mul, mul_comm, div-eq_of_lt-le, pow-le-pow_right}
use Rattle.intervals.specs.Spans.{Span, IsSpan, Within}
use Rattle.intervals.specs.Rounding.{floor, ceiling, round_span, IsFloor, IsCeiling}

-- The digits of a word: as many as stand after its leading zeros.
pub record Digits (a : ℕ) : Type 0 where
  pub count : ℕ
  pub zeros_are : leading_zeros w64 a + count ≡ 64
  pub ceiling_is : ceiling a ≡ 2 ^ count - 1
  pub fits : a < 2 ^ count
  pub first : 2 ^ count ≤ 2 * a + 1

pub digits : (a : ℕ) → a < 2 ^ 64 → Digits a
unfolding ceiling
digits a h =
    let l = leading_length 64 a h in
    let e : 64 - leading_zeros w64 a ≡ l.0 = omega (arith, l.1) in
    record { count = l.0; zeros_are = l.1; ceiling_is = ap (λ n. 2 ^ n - 1) e; fits = l.2; first = l.3 }

-- The first digit of a word above 0.
pub record First (a : ℕ) : Type 0 where
  pub place : ℕ
  pub place_is : 63 - leading_zeros w64 a ≡ place
  pub floor_is : floor a ≡ 2 ^ place
  pub below : 2 ^ place ≤ a
  pub above : a < 2 ^ suc place

pub first : (a : ℕ) → 0 < a → a < 2 ^ 64 → First a
unfolding floor
first a p h =
    let l = leading_top 64 a p h in
    let e : 63 - leading_zeros w64 a ≡ l.0 = omega (arith, l.1) in
    let is : floor a ≡ 2 ^ l.0 = grind (arith, nat_tests, ap (λ n. 2 ^ n) e) in
    record { place = l.0; place_is = e; floor_is = is; below = l.2; above = l.3 }

pub first_shifted : (a : ℕ) → 0 < a → a < 2 ^ 64 → 1 * 2 ^ (63 - leading_zeros w64 a) % 2 ^ 64 ≤ a
first_shifted a p h =
    let f = first a p h in
    let e : 2 ^ (63 - leading_zeros w64 a) ≡ 2 ^ f.place = ap (λ n. 2 ^ n) f.place_is in
    omega (arith, mod-le (1 * 2 ^ (63 - leading_zeros w64 a)) (2 ^ 64), e, f.below)

-- Of the greatest number of several digits the low ones are cut off.
ones_cut : (p q : ℕ) → 0 < p → 0 < q → (p * q - 1) / p ≡ q - 1
ones_cut p zero hp hq = absurd (omega (arith, hq))
ones_cut p (suc r) hp hq =
    let turned : p * r ≡ r * p = mul_comm p r in
    let more : p * suc r ≡ p * r + p = mul-suc p r in
    let wide : (r + 1) * p ≡ r * p + p = ap (λ n. n * p) (add-one r) ∙ suc-mul r p in
    let less : r ≡ suc r - 1 = omega arith in
    div-eq_of_lt-le {k = r} p {m = p * suc r - 1} (omega arith) (omega arith) ∙ less

pub ones_shifted : (a : ℕ) → a < 2 ^ 64 → (2 ^ 64 - 1) / 2 ^ leading_zeros w64 a ≡ ceiling a
ones_shifted a h =
    let d = digits a h in
    let parts : 2 ^ 64 ≡ 2 ^ leading_zeros w64 a * 2 ^ d.count = ap (λ n. 2 ^ n) (sym d.zeros_are) ∙ pow-add 2 (leading_zeros w64 a) d.count in
    ap (λ n. (n - 1) / 2 ^ leading_zeros w64 a) parts
    ∙ ones_cut (2 ^ leading_zeros w64 a) (2 ^ d.count) (pow_pos (leading_zeros w64 a)) (pow_pos d.count)
    ∙ sym d.ceiling_is

-- powers of two have no power between them
pow_steps : (j k : ℕ) → 2 ^ k < 2 ^ suc j → 2 ^ k ≤ 2 ^ j
pow_steps j k h =
    elim (cases_lt k (suc j)) [
      | inl less ↦ pow-le-pow_right (pow_pos 1) (omega (arith, less))
      | inr more ↦ absurd (omega (arith, h, pow-le-pow_right {n = 2} (omega arith) more))
    ]

pub floor_zero : floor 0 ≡ 0
unfolding floor
floor_zero = refl

pub ceiling_zero : ceiling 0 ≡ 0
unfolding ceiling
ceiling_zero = ap (λ n. 2 ^ (64 - n) - 1) (leading_of_zero 64)

pub floor_nearest : (a : ℕ) → a < 2 ^ 64 → IsFloor a (floor a)
floor_nearest zero h =
    record { kind = inl floor_zero; below = omega (arith, floor_zero); greatest = λ k le. absurd (omega (arith, le, pow_pos k)) }
floor_nearest (suc b) h =
    let f = first (suc b) (omega arith) h in
    record {
      kind = inr (f.place, f.floor_is);
      below = omega (arith, f.floor_is, f.below);
      greatest = λ k le. omega (arith, f.floor_is, pow_steps f.place k (omega (arith, le, f.above)));
    }

-- twice a power of two is the next one
pub ceiling_nearest : (a : ℕ) → a < 2 ^ 64 → IsCeiling a (ceiling a)
ceiling_nearest a h =
    let d = digits a h in
    record {
      kind = (d.count, d.ceiling_is);
      above = omega (arith, d.ceiling_is, d.fits);
      least = λ k le. omega (arith, d.ceiling_is, next k d.count a le d.first);
    }
  where
    next : (k n b : ℕ) → b ≤ 2 ^ k - 1 → 2 ^ n ≤ 2 * b + 1 → 2 ^ n ≤ 2 ^ k
    next k zero b le m = omega (arith, pow_pos k)
    next k (suc n) b le m =
        elim (cases_lt n k) [
          | inl less ↦ pow-le-pow_right {n = 2} (omega arith) less
          | inr more ↦ absurd (omega (arith, le, m, pow_pos k, pow-suc 2 n, pow-le-pow_right {n = 2} (omega arith) more))
        ]

pub floor_mono : (a b : ℕ) → a ≤ b → b < 2 ^ 64 → floor a ≤ floor b
floor_mono a b le h =
    let f = floor_nearest a (omega (arith, le, h)) in
    let g = floor_nearest b h in
    elim f.kind [
      | inl none ↦ omega (arith, none)
      | inr some ↦ omega (arith, some.1, g.greatest some.0 (omega (arith, some.1, f.below, le)))
    ]

pub ceiling_mono : (a b : ℕ) → a ≤ b → b < 2 ^ 64 → ceiling a ≤ ceiling b
ceiling_mono a b le h =
    let f = ceiling_nearest a (omega (arith, le, h)) in
    let g = ceiling_nearest b h in
    omega (arith, g.kind.1, f.least g.kind.0 (omega (arith, g.kind.1, g.above, le)))

-- below a power of two the ceiling is, too
pub ceiling_fits : (a k : ℕ) → a < 2 ^ 64 → a < 2 ^ k → ceiling a < 2 ^ k
ceiling_fits a k h lt =
    let f = ceiling_nearest a h in
    omega (arith, f.least k (omega (arith, lt)), pow_pos k)

pub rounded_within : (x : Span) → IsSpan (2 ^ 64 - 1) x → Within x (round_span x)
unfolding round_span
rounded_within x s =
    let f = floor_nearest x.low (omega (arith, s.ordered, s.most)) in
    let g = ceiling_nearest x.high (omega (arith, s.most)) in
    record { from = f.below; upto = g.above }

pub rounded_fits : (bits : ℕ) (x : Span) → bits ≤ 64 → IsSpan (2 ^ bits - 1) x → IsSpan (2 ^ bits - 1) (round_span x)
unfolding round_span
rounded_fits bits x b s =
    let words : 2 ^ bits ≤ 2 ^ 64 = pow-le-pow_right {n = 2} (omega arith) b in
    let h : x.high < 2 ^ 64 = omega (arith, s.most, pow_pos bits, words) in
    let f = floor_nearest x.low (omega (arith, s.ordered, h)) in
    let g = ceiling_nearest x.high h in
    let e = ceiling_fits x.high bits h (omega (arith, s.most, pow_pos bits)) in
    record { ordered = omega (arith, f.below, g.above, s.ordered); most = omega (arith, e) }

pub rounded_mono : (x s : Span) → IsSpan (2 ^ 64 - 1) x → IsSpan (2 ^ 64 - 1) s → Within x s → Within (round_span x) (round_span s)
unfolding round_span
rounded_mono x s hx hs w =
    record {
      from = floor_mono s.low x.low w.from (omega (arith, hx.ordered, hx.most));
      upto = ceiling_mono x.high s.high w.upto (omega (arith, hs.most));
    }
