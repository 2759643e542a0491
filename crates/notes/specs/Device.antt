-- The least device on which a log lies (docs/REFUSALS.md, Notes).
use Rattle.std.specs.Prelude.{ℕ, ◌+◌, ◌++◌, codes, ◌==◌, ◌≡◌, ◌≤◌, if◌then◌else◌, List, slice_get, Some}
use Rattle.std.specs.Fmt.{decimal}
use Rattle.logfmt.specs.declared.entry.Entry.{Entry}

-- the sector after the last one that an entry covers
abbrev pub end_of : Entry → ℕ
end_of e = if e.count == 0 then 0 else e.sector + e.count

-- each entry lies on a device of that size
abbrev pub LieOn : List Entry → ℕ → Type 0
LieOn es sectors = (i : ℕ) (e : Entry) → slice_get es i ≡ Some e → end_of e ≤ sectors

-- the size of a device on which they lie, and no less serves
pub record IsLeastDevice (es : List Entry) (sectors : ℕ) : Type 0 where
  pub some : 1 ≤ sectors
  pub lie : LieOn es sectors
  pub least : (m : ℕ) → 1 ≤ m → LieOn es m → sectors ≤ m

abbrev pub size_note : ℕ → List ℕ
size_note sectors = codes "note: --sectors " ++ decimal sectors ++ codes " is the least that holds this log\n"

-- that size is said after what was said before
pub record SaysLeast (es : List Entry) (before now : List ℕ) : Type 0 where
  pub sectors : ℕ
  pub least : IsLeastDevice es sectors
  pub said : now ≡ before ++ size_note sectors
