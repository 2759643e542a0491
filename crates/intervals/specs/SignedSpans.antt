-- Ranges of signed numbers (docs/VERIFIER.md, Abstract values).
use Rattle.std.specs.Prelude.{ℤ, pos, neg_ℤ, ◌≤ℤ◌, ◌-◌, ◌^◌, int_le, Bool, if◌then◌else◌, Option, None, Some}
use Rattle.std.specs.Int.{int_min, int_max, w64}
use Rattle.std.specs.Int.RustNames.{FitsSigned}

pub record SignedSpan : Type 0 where
  pub low : ℤ
  pub high : ℤ

abbrev pub signed_span : ℤ → ℤ → SignedSpan
signed_span a b = record { low = a; high = b }

-- the least and the greatest signed number of 64 bits
abbrev pub least : ℤ
least = neg_ℤ (pos (2 ^ 63))

abbrev pub greatest : ℤ
greatest = pos (2 ^ 63 - 1)

-- all signed numbers of 64 bits
abbrev pub signed_full : SignedSpan
signed_full = signed_span least greatest

-- a range of signed numbers of 64 bits, which is not empty
pub record IsSignedSpan (x : SignedSpan) : Type 0 where
  pub ordered : x.low ≤ℤ x.high
  pub low_fits : FitsSigned w64 x.low
  pub high_fits : FitsSigned w64 x.high

-- a number of the range
pub record HasSigned (x : SignedSpan) (z : ℤ) : Type 0 where
  pub from : x.low ≤ℤ z
  pub upto : z ≤ℤ x.high

-- each number of the first is one of the second
pub record SignedWithin (x y : SignedSpan) : Type 0 where
  pub from : y.low ≤ℤ x.low
  pub upto : x.high ≤ℤ y.high

-- a range that is not empty
unfoldable pub inhabited_signed : SignedSpan → Option SignedSpan
inhabited_signed x = if int_le x.low x.high then Some x else None

-- the numbers of a range that are not below a number, and those that are not above it
abbrev pub not_below : SignedSpan → ℤ → SignedSpan
not_below x n = signed_span (int_max x.low n) x.high

abbrev pub not_above : SignedSpan → ℤ → SignedSpan
not_above x n = signed_span x.low (int_min x.high n)

-- those from one number to another
abbrev pub cut_between : SignedSpan → ℤ → ℤ → SignedSpan
cut_between x a b = signed_span (int_max x.low a) (int_min x.high b)

-- the least range that holds both
abbrev pub signed_hull : SignedSpan → SignedSpan → SignedSpan
signed_hull x y = signed_span (int_min x.low y.low) (int_max x.high y.high)
