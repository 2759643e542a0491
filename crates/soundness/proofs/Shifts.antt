-- Addresses and offsets that are moved.
use Rattle.std.proofs.Common.{◌≡◌, ◌<◌, ◌≤◌, ℕ, ◌+◌, ◌-◌, ◌%◌, ◌^◌, nat_le, Bool, true, false, if◌then◌else◌, ℤ, pos, negsuc, ◌+ℤ◌, ◌-ℤ◌, Option, None, Some, refl, ap, ◌∙◌, arith}
use Rattle.std.specs.Prelude.{FitsSigned}
use Rattle.std.specs.Option.{option_map, option_and_then}
use Rattle.std.specs.Int.{cast_unsigned, cast_signed, w16, w64}
use Rattle.std.proofs.lemmas.Int.{ints}
use Rattle.std.proofs.lemmas.Bool.Decides.{nat_tests}
use Rattle.intervals.specs.Spans.{Span, span}
use Rattle.ranges.specs.Pointers.{offset_in, offsets_in}
use Rattle.ranges.specs.Places.{landing}

pub offset_is : (limit : ℕ) (z : ℤ) (n : ℕ) → offset_in limit z ≡ Some n → (z ≡ pos n) × (n ≤ limit)
offset_is limit (negsuc m) n e = absurd (let bad : None ≡ Some n = e in cc)
offset_is limit (pos m) n e = by_test (nat_le m limit) refl e
  where
    by_test : (b : Bool) → nat_le m limit ≡ b → (if b then Some m else None) ≡ Some n → (pos m ≡ pos n) × (n ≤ limit)
    by_test true t f = let same : m ≡ n = cc in (ap pos same, rw (← same) (grind (arith, nat_tests)))
    by_test false t f = absurd (let bad : None ≡ Some n = f in cc)

pub offsets_are : (limit : ℕ) (a b : ℤ) (z : Span) → offsets_in limit a b ≡ Some z → (a ≡ pos z.low) × (b ≡ pos z.high)
offsets_are limit a b z e = by_both (offset_in limit a) (offset_in limit b) refl refl e
  where
    by_both : (m n : Option ℕ) → offset_in limit a ≡ m → offset_in limit b ≡ n → option_and_then (λ low. option_map (λ high. span low high) n) m ≡ Some z
        → (a ≡ pos z.low) × (b ≡ pos z.high)
    by_both None n p q f = absurd (let bad : None ≡ Some z = f in cc)
    by_both (Some x) None p q f = absurd (let bad : None ≡ Some z = f in cc)
    by_both (Some x) (Some y) p q f =
        let same : span x y ≡ z = cc in
        ((offset_is limit a x p).0 ∙ ap (λ (s : Span). pos s.low) same, (offset_is limit b y q).0 ∙ ap (λ (s : Span). pos s.high) same)

-- where an access begins
pub landed_is : (size n o at : ℕ) (distance : ℤ) → landing size n o distance ≡ Some at → (pos o +ℤ distance ≡ pos at) × (at + n ≤ size)
landed_is size n o at distance e = by_test (nat_le n size) refl e
  where
    by_test : (b : Bool) → nat_le n size ≡ b → (if b then offset_in (size - n) (pos o +ℤ distance) else None) ≡ Some at → (pos o +ℤ distance ≡ pos at) × (at + n ≤ size)
    by_test true t f =
        let h = offset_is (size - n) (pos o +ℤ distance) at f in
        let le : n ≤ size = grind (arith, nat_tests) in
        (h.0, omega (arith, h.1, le))
    by_test false t f = absurd (let bad : None ≡ Some at = f in cc)

-- an address at a distance, over whole numbers
pub reached : (start o at : ℕ) (distance : ℤ) → FitsSigned w16 distance → pos o +ℤ distance ≡ pos at → start + o < 2 ^ 62 → start + at < 2 ^ 62
    → (start + o + cast_unsigned w64 distance) % 2 ^ 64 ≡ start + at
reached start o at distance fits e small low = grind (arith, ints, nat_tests, fits, e)

-- an address moved up or down by a constant
pub moved_up : (start o b p : ℕ) → b < 2 ^ 64 → pos o +ℤ cast_signed w64 b ≡ pos p → start + o < 2 ^ 62 → start + p < 2 ^ 62
    → (start + o + b) % 2 ^ 64 ≡ start + p
moved_up start o b p lt e small low = grind (arith, ints, nat_tests, e)

pub moved_down : (start o b p : ℕ) → b < 2 ^ 64 → pos o -ℤ cast_signed w64 b ≡ pos p → start + o < 2 ^ 62 → start + p < 2 ^ 62
    → (start + o + (2 ^ 64 - b)) % 2 ^ 64 ≡ start + p
moved_down start o b p lt e small low = grind (arith, ints, nat_tests, e)

-- the same by a small number
pub small_down : (start o b p : ℕ) → b ≤ 65535 → pos o -ℤ pos b ≡ pos p → start + o < 2 ^ 62 → (start + o + (2 ^ 64 - b)) % 2 ^ 64 ≡ start + p
small_down start o b p lt e small = let whole : o ≡ p + b = omega (arith, ints, e) in omega (arith, whole)
