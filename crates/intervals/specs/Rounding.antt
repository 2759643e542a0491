-- Ranges between powers of two (docs/VERIFIER.md, Abstract states).
use Rattle.std.specs.Prelude.{◌≡◌, ℕ, ◌-◌, ◌^◌, ◌≤◌, ◌==◌, ◌⊎◌, if◌then◌else◌}
use Rattle.std.specs.Int.{leading_zeros, w64}
use Rattle.intervals.specs.Spans.{Span, span}

-- The greatest of 0, 1, 2, 4, 8, .. that is not above a word: of its binary digits the first is
-- kept.
unfoldable pub floor : ℕ → ℕ
floor a = if a == 0 then 0 else 2 ^ (63 - leading_zeros w64 a)

-- The least 2 ^ k - 1 that is not below a word: all of its binary digits are set.
unfoldable pub ceiling : ℕ → ℕ
ceiling a = 2 ^ (64 - leading_zeros w64 a) - 1

unfoldable pub round_span : Span → Span
round_span x = span (floor x.low) (ceiling x.high)

-- what floor and ceiling answer, in their own words
pub record IsFloor (a m : ℕ) : Type 0 where
  pub kind : (m ≡ 0) ⊎ ((k : ℕ) × (m ≡ 2 ^ k))
  pub below : m ≤ a
  pub greatest : (k : ℕ) → 2 ^ k ≤ a → 2 ^ k ≤ m

pub record IsCeiling (a m : ℕ) : Type 0 where
  pub kind : (k : ℕ) × (m ≡ 2 ^ k - 1)
  pub above : a ≤ m
  pub least : (k : ℕ) → a ≤ 2 ^ k - 1 → m ≤ 2 ^ k - 1
