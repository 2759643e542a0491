-- Ranges of numbers, without a bound on their size (docs/VERIFIER.md, Abstract values).
use Rattle.std.specs.Prelude.{ℕ, ◌≤◌, ◌==◌, nat_le, Bool, if◌then◌else◌, Option, None, Some, min, max}

pub record Span : Type 0 where
  pub low : ℕ
  pub high : ℕ

abbrev pub span : ℕ → ℕ → Span
span a b = record { low = a; high = b }

-- the one number
abbrev pub only : ℕ → Span
only a = span a a

abbrev pub is_constant : Span → Bool
is_constant x = x.low == x.high

-- a range of numbers up to m: it is not empty, and none of its numbers is above m
pub record IsSpan (m : ℕ) (x : Span) : Type 0 where
  pub ordered : x.low ≤ x.high
  pub most : x.high ≤ m

-- a number of the range
pub record Has (x : Span) (a : ℕ) : Type 0 where
  pub from : x.low ≤ a
  pub upto : a ≤ x.high

-- each number of the first is one of the second
pub record Within (x y : Span) : Type 0 where
  pub from : y.low ≤ x.low
  pub upto : x.high ≤ y.high

-- a range that is not empty
abbrev pub nonempty : Span → Option Span
nonempty x = if nat_le x.low x.high then Some x else None

-- the least range that holds both
abbrev pub hull : Span → Span → Span
hull x y = span (min x.low y.low) (max x.high y.high)
