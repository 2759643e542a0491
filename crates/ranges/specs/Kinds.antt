-- What a register may hold (docs/VERIFIER.md, Abstract values), and how two such sets are joined and
-- one is rounded (Abstract states). Offsets have no bound here; the types of the code keep them.
use Rattle.std.specs.Prelude.{◌≡◌, ℕ, ◌==◌, if◌then◌else◌, Bool, true, false}
use Rattle.intervals.specs.Spans.{Span, hull}
use Rattle.intervals.specs.Rounding.{round_span}
use Rattle.intervals.specs.Reducing.{Limits, limits_hull}
use Rattle.intervals.specs.SignedRounding.{limits_rounded}

-- anything, unset too; any word; the words of both ranges of a number; the address of the context, of the lower end of the
-- stack, or of a sector, and an offset; 0 or the address of a sector
pub data Kind : Type 0 where
  Unset : Kind
  Word : Kind
  Num : Limits → Kind
  Ctx : ℕ → Kind
  Stack : ℕ → Kind
  Sector : Span → Kind
  SectorOrNull : Kind

abbrev pub is_number : Kind → Bool
is_number (Num x) = true
is_number _ = false

abbrev pub is_pointer : Kind → Bool
is_pointer Unset = false
is_pointer Word = false
is_pointer (Num x) = false
is_pointer _ = true

-- it may be unset
abbrev pub is_unset : Kind → Bool
is_unset Unset = true
is_unset _ = false

-- it may be a pointer as well as a number, and maybe it is unset
abbrev pub is_unknown : Kind → Bool
is_unknown Unset = true
is_unknown Word = true
is_unknown _ = false

-- the join: ranges of one kind give their hull, equal pointers stay, and other words give any word
unfoldable pub join : Kind → Kind → Kind
join (Num x) (Num y) = Num (limits_hull x y)
join (Ctx a) (Ctx b) = if a == b then Ctx a else Word
join (Stack a) (Stack b) = if a == b then Stack a else Word
join (Sector x) (Sector y) = Sector (hull x y)
join SectorOrNull SectorOrNull = SectorOrNull
join Unset _ = Unset
join _ Unset = Unset
join _ _ = Word

-- the first holds all that the second does
abbrev pub Contains : Kind → Kind → Type 0
Contains k l = join k l ≡ k

-- rounding widens ranges
unfoldable pub round : Kind → Kind
round (Num x) = Num (limits_rounded x)
round (Sector x) = Sector (round_span x)
round k = k
