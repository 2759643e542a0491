-- Words and their readings as signed numbers: where all are of one sign, they are in one order.
use Rattle.std.proofs.Common.{ℕ, zero, suc, ◌≡◌, ◌+◌, ◌-◌, ◌^◌, ◌<◌, ◌≤◌, nat_lt, ◌||◌, Bool, true, false, ℤ, pos, negsuc, refl, inl, inr, arith}
use Rattle.std.specs.Prelude.{◌≤ℤ◌, ◌<ℤ◌, ◌⊎◌, int_le, int_lt, nat_le}
use Rattle.std.specs.Int.{cast_signed, cast_unsigned, w64}
use Rattle.std.specs.Int.RustNames.{FitsSigned}
use Rattle.std.proofs.lemmas.Bool.Decides.{nat_tests}
use Rattle.std.proofs.lemmas.Int.{to_z_pos, ints}
use Rattle.intervals.specs.Spans.{Span}
use Rattle.intervals.specs.SignedSpans.{SignedSpan}
use Rattle.intervals.specs.Reducing.{has_one_sign, has_one_sign_signed}

pub natural_reading : (a : ℕ) → a < 2 ^ 63 → cast_signed w64 a ≡ pos a
natural_reading a h = to_z_pos w64 a h

pub negative_reading : (a : ℕ) → 2 ^ 63 ≤ a → cast_signed w64 a ≡ negsuc (2 ^ 64 - suc a)
negative_reading a h =
    let t : nat_lt a (2 ^ 63) ≡ false = grind (arith, nat_tests, h) in
    rw t refl

pub ordered_readings : (a b : ℕ) → a ≤ b → b < 2 ^ 64 → (b < 2 ^ 63) ⊎ (2 ^ 63 ≤ a) → cast_signed w64 a ≤ℤ cast_signed w64 b
ordered_readings a b le h (inl small) =
    let p = natural_reading a (omega (arith, le, small)) in
    let q = natural_reading b small in
    rw (p, q) (omega (arith, ints, le))
ordered_readings a b le h (inr large) =
    let p = negative_reading a large in
    let q = negative_reading b (omega (arith, le, large)) in
    rw (p, q) (omega (arith, ints, le, h))

pub ordered_words : (y z : ℤ) → y ≤ℤ z → FitsSigned w64 y → FitsSigned w64 z → (pos 0 ≤ℤ y) ⊎ (z <ℤ pos 0) → cast_unsigned w64 y ≤ cast_unsigned w64 z
ordered_words (pos a) (pos b) le f g s = omega (arith, ints, le)
ordered_words (pos a) (negsuc b) le f g s = absurd (omega (arith, ints, le))
ordered_words (negsuc a) (pos b) le f g (inl n) = absurd (omega (arith, ints, n))
ordered_words (negsuc a) (pos b) le f g (inr n) = absurd (omega (arith, ints, n))
ordered_words (negsuc a) (negsuc b) le f g s = omega (arith, ints, le, f, g)

pub one_sign : (u : Span) → has_one_sign u ≡ true → (u.high < 2 ^ 63) ⊎ (2 ^ 63 ≤ u.low)
one_sign u e = by (nat_lt u.high (2 ^ 63)) (nat_le (2 ^ 63) u.low) refl refl e
  where
    by : (s t : Bool) → nat_lt u.high (2 ^ 63) ≡ s → nat_le (2 ^ 63) u.low ≡ t → (s || t) ≡ true → (u.high < 2 ^ 63) ⊎ (2 ^ 63 ≤ u.low)
    by true t p q k = inl (grind (arith, nat_tests, p))
    by false true p q k = inr (grind (arith, nat_tests, q))
    by false false p q k = absurd (let bad : false ≡ true = k in cc)

pub both_signs : (u : Span) → has_one_sign u ≡ false → (u.low < 2 ^ 63) × (2 ^ 63 ≤ u.high)
both_signs u e = by (nat_lt u.high (2 ^ 63)) (nat_le (2 ^ 63) u.low) refl refl e
  where
    by : (s t : Bool) → nat_lt u.high (2 ^ 63) ≡ s → nat_le (2 ^ 63) u.low ≡ t → (s || t) ≡ false → (u.low < 2 ^ 63) × (2 ^ 63 ≤ u.high)
    by true t p q k = absurd (let bad : true ≡ false = k in cc)
    by false true p q k = absurd (let bad : true ≡ false = k in cc)
    by false false p q k = (grind (arith, nat_tests, q), grind (arith, nat_tests, p))

pub one_sign_signed : (s : SignedSpan) → has_one_sign_signed s ≡ true → (pos 0 ≤ℤ s.low) ⊎ (s.high <ℤ pos 0)
one_sign_signed s e = by (int_le (pos 0) s.low) (int_lt s.high (pos 0)) refl refl e
  where
    by : (t r : Bool) → int_le (pos 0) s.low ≡ t → int_lt s.high (pos 0) ≡ r → (t || r) ≡ true → (pos 0 ≤ℤ s.low) ⊎ (s.high <ℤ pos 0)
    by true r p q k = inl (omega (arith, ints, p))
    by false true p q k = inr (omega (arith, ints, q))
    by false false p q k = absurd (let bad : false ≡ true = k in cc)

pub both_signs_signed : (s : SignedSpan) → has_one_sign_signed s ≡ false → (s.low <ℤ pos 0) × (pos 0 ≤ℤ s.high)
both_signs_signed s e = by (int_le (pos 0) s.low) (int_lt s.high (pos 0)) refl refl e
  where
    by : (t r : Bool) → int_le (pos 0) s.low ≡ t → int_lt s.high (pos 0) ≡ r → (t || r) ≡ false → (s.low <ℤ pos 0) × (pos 0 ≤ℤ s.high)
    by true r p q k = absurd (let bad : true ≡ false = k in cc)
    by false true p q k = absurd (let bad : true ≡ false = k in cc)
    by false false p q k = (omega (arith, ints, p), omega (arith, ints, q))

-- and the other way round
pub says_one_sign : (u : Span) → (u.high < 2 ^ 63) ⊎ (2 ^ 63 ≤ u.low) → has_one_sign u ≡ true
says_one_sign u (inl small) = let t : nat_lt u.high (2 ^ 63) ≡ true = grind (arith, nat_tests, small) in rw t refl
says_one_sign u (inr large) = by (nat_lt u.high (2 ^ 63)) refl
  where
    by : (s : Bool) → nat_lt u.high (2 ^ 63) ≡ s → (s || nat_le (2 ^ 63) u.low) ≡ true
    by true p = refl
    by false p = grind (arith, nat_tests, large)

pub says_both_signs : (u : Span) → u.low < 2 ^ 63 → 2 ^ 63 ≤ u.high → has_one_sign u ≡ false
says_both_signs u low high =
    let t : nat_lt u.high (2 ^ 63) ≡ false = grind (arith, nat_tests, high) in
    let r : nat_le (2 ^ 63) u.low ≡ false = grind (arith, nat_tests, low) in
    rw (t, r) refl

pub says_both_signs_signed : (s : SignedSpan) → s.low <ℤ pos 0 → pos 0 ≤ℤ s.high → has_one_sign_signed s ≡ false
says_both_signs_signed s low high =
    let t : false ≡ int_le (pos 0) s.low = omega (arith, ints, low) in
    let r : false ≡ int_lt s.high (pos 0) = omega (arith, ints, high) in
    rw (← t, ← r) refl
