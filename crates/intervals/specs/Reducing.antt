-- The two ranges of a number, of its word and of its reading as a signed number, and how one cuts the
-- other (docs/VERIFIER.md, Abstract values).
use Rattle.std.specs.Prelude.{◌≡◌, ℕ, ℤ, pos, ◌-◌, ◌^◌, ◌<◌, ◌≤◌, ◌<ℤ◌, ◌≤ℤ◌, nat_lt, nat_le, int_lt, int_le, ◌||◌, ◌⊎◌, Bool, if◌then◌else◌, Option, None, Some, min, max}
use Rattle.std.specs.Option.{option_map, option_and_then}
use Rattle.std.specs.Int.{cast_signed, cast_unsigned, w64}
use Rattle.intervals.specs.Spans.{Span, span, only, IsSpan, Has, Within, nonempty, hull}
use Rattle.intervals.specs.SignedSpans.{SignedSpan, signed_span, signed_full, IsSignedSpan, HasSigned, SignedWithin, inhabited_signed, cut_between, signed_hull}

pub record Limits : Type 0 where
  pub unsigned : Span
  pub signed : SignedSpan

abbrev pub limits : Span → SignedSpan → Limits
limits u s = record { unsigned = u; signed = s }

-- a word of both ranges
pub record HasWord (x : Limits) (a : ℕ) : Type 0 where
  pub word : Has x.unsigned a
  pub reading : HasSigned x.signed (cast_signed w64 a)

-- each range lies in that of the other
pub record LimitsWithin (x y : Limits) : Type 0 where
  pub unsigned : Within x.unsigned y.unsigned
  pub signed : SignedWithin x.signed y.signed

-- none of the words is negative, or each
abbrev pub has_one_sign : Span → Bool
has_one_sign u = nat_lt u.high (2 ^ 63) || nat_le (2 ^ 63) u.low

abbrev pub has_one_sign_signed : SignedSpan → Bool
has_one_sign_signed s = int_le (pos 0) s.low || int_lt s.high (pos 0)

-- Words of one sign are in the order of their readings, so the readings of their ends cut the signed
-- range.
unfoldable pub signed_cut : Span → SignedSpan → SignedSpan
signed_cut u s =
    if has_one_sign u then cut_between s (cast_signed w64 u.low) (cast_signed w64 u.high) else s

-- and the other way round
unfoldable pub unsigned_cut : SignedSpan → Span → Span
unsigned_cut s u =
    if has_one_sign_signed s then span (max u.low (cast_unsigned w64 s.low)) (min u.high (cast_unsigned w64 s.high)) else u

-- The signed range is cut, then the other, then the signed one once more. None where one of them is
-- left empty.
unfoldable pub reduction : Limits → Option Limits
reduction x =
    option_and_then
    (λ s. option_and_then (λ u. option_map (limits u) (inhabited_signed (signed_cut u s))) (nonempty (unsigned_cut s x.unsigned)))
    (inhabited_signed (signed_cut x.unsigned x.signed))

-- reducing leaves it as it is
abbrev pub IsReduced : Limits → Type 0
IsReduced x = reduction x ≡ Some x

-- ranges of words and of their readings
pub record IsWordLimits (x : Limits) : Type 0 where
  pub words : IsSpan (2 ^ 64 - 1) x.unsigned
  pub readings : IsSignedSpan x.signed

-- the limits that a value has
pub record IsLimits (x : Limits) : Type 0 where
  pub words : IsSpan (2 ^ 64 - 1) x.unsigned
  pub readings : IsSignedSpan x.signed
  pub reduced : IsReduced x

-- both ranges say the same
pub record AreAlike (x : Limits) : Type 0 where
  pub low : x.signed.low ≡ cast_signed w64 x.unsigned.low
  pub high : x.signed.high ≡ cast_signed w64 x.unsigned.high

-- both ranges have numbers of both signs
pub record AreMixed (x : Limits) : Type 0 where
  pub low : x.unsigned.low < 2 ^ 63
  pub high : 2 ^ 63 ≤ x.unsigned.high
  pub signed_low : x.signed.low <ℤ pos 0
  pub signed_high : pos 0 ≤ℤ x.signed.high

-- The words of a range, whatever their readings are: the readings are all, or what words of one sign
-- tell of them.
abbrev pub any_sign : Span → Limits
any_sign u = limits u (signed_cut u signed_full)

-- the least limits that hold both
abbrev pub limits_hull : Limits → Limits → Limits
limits_hull x y = limits (hull x.unsigned y.unsigned) (signed_hull x.signed y.signed)
