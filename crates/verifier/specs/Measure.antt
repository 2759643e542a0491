-- The whole number that grows with each round that changes the table (docs/VERIFIER.md, Inference).
use Rattle.std.specs.Prelude.{ℕ, ◌+◌, ◌-◌, ◌*◌, ◌^◌, Bool, true, false, ℤ, pos, negsuc, ◌-ℤ◌, List, [], ◌∷◌, Option, None, Some}
use Rattle.intervals.specs.Spans.{Span}
use Rattle.intervals.specs.SignedSpans.{SignedSpan}
use Rattle.ranges.specs.Kinds.{Kind, Unset, Word, Num, Ctx, Stack, Sector, SectorOrNull}
use Rattle.ranges.specs.Groups.{GroupKind, Marked, Spilled}
use Rattle.ranges.specs.States.{Abstract}

-- the sum of the widths of all elements
abbrev pub total : {X : Type 0} → (X → ℕ) → List X → ℕ
total f [] = 0
total f (x ∷ xs) = f x + total f xs

-- the length of a range is its high end minus its low end
abbrev pub span_length : Span → ℕ
span_length x = x.high - x.low

abbrev pub natural : ℤ → ℕ
natural (pos n) = n
natural (negsuc n) = 0

abbrev pub signed_length : SignedSpan → ℕ
signed_length x = natural (x.high -ℤ x.low)

-- of a number the lengths of both ranges count, and pointers to one place have no width; any word is wider than each
unfoldable pub width : Kind → ℕ
width Unset = 2 ^ 67
width Word = 2 ^ 66
width (Num x) = span_length x.unsigned + signed_length x.signed
width (Ctx o) = 0
width (Stack o) = 0
width (Sector x) = span_length x
width SectorOrNull = 0

-- a written byte, and an unset one
abbrev pub byte_width : Bool → ℕ
byte_width true = 2 ^ 66
byte_width false = 2 ^ 67

-- each of the eight bytes of a spilled value has the width of the value
unfoldable pub group_width : GroupKind → ℕ
group_width (Marked marks) = total byte_width marks
group_width (Spilled k) = 8 * width k

unfoldable pub state_width : Abstract → ℕ
state_width s = 1 + total width s.values + total group_width s.groups

abbrev pub slot_width : Option Abstract → ℕ
slot_width None = 0
slot_width (Some s) = state_width s

-- the sum of a table
unfoldable pub weight : List (Option Abstract) → ℕ
weight table = total slot_width table
