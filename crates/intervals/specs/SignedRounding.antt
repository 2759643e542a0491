-- Signed ranges between powers of two (docs/VERIFIER.md, Abstract states).
use Rattle.std.specs.Prelude.{◌≡◌, ℕ, ℤ, pos, negsuc, neg_ℤ, ◌-◌, ◌^◌, ◌≤ℤ◌, ◌<ℤ◌, ◌⊎◌, unwrap_or}
use Rattle.intervals.specs.Rounding.{ceiling, round_span}
use Rattle.intervals.specs.SignedSpans.{SignedSpan, signed_span}
use Rattle.intervals.specs.Reducing.{Limits, limits, reduction}

-- The greatest of 0, -1, -2, -4, -8, .. that is not above a number. `negsuc n` is -(n + 1), and where
-- 2 ^ k - 1 is the ceiling of n, `negsuc (2 ^ k - 1)` is -(2 ^ k).
unfoldable pub signed_floor : ℤ → ℤ
signed_floor (pos n) = pos 0
signed_floor (negsuc n) = negsuc (ceiling n)

-- the least of -1, 0, 1, 3, 7, .. that is not below a number
unfoldable pub signed_ceiling : ℤ → ℤ
signed_ceiling (pos n) = pos (ceiling n)
signed_ceiling (negsuc n) = negsuc 0

unfoldable pub signed_rounded : SignedSpan → SignedSpan
signed_rounded x = signed_span (signed_floor x.low) (signed_ceiling x.high)

-- both ranges between powers of two, before they cut each other
abbrev pub round_limits : Limits → Limits
round_limits x = limits (round_span x.unsigned) (signed_rounded x.signed)

-- what is rounded isn't empty, since it has what was there before
unfoldable pub limits_rounded : Limits → Limits
limits_rounded x = unwrap_or (reduction (round_limits x)) x

-- what the two answer, in their own words
pub record IsSignedFloor (z m : ℤ) : Type 0 where
  pub kind : (m ≡ pos 0) ⊎ ((k : ℕ) × (m ≡ neg_ℤ (pos (2 ^ k))))
  pub below : m ≤ℤ z
  pub natural : pos 0 ≤ℤ z → pos 0 ≤ℤ m
  pub nearest : (k : ℕ) → neg_ℤ (pos (2 ^ k)) ≤ℤ z → neg_ℤ (pos (2 ^ k)) ≤ℤ m

pub record IsSignedCeiling (z m : ℤ) : Type 0 where
  pub kind : (m ≡ neg_ℤ (pos 1)) ⊎ ((k : ℕ) × (m ≡ pos (2 ^ k - 1)))
  pub above : z ≤ℤ m
  pub negative : z <ℤ pos 0 → m <ℤ pos 0
  pub nearest : (k : ℕ) → z ≤ℤ pos (2 ^ k - 1) → m ≤ℤ pos (2 ^ k - 1)
