-- A row as it is kept: the units at risk that cover a sector, the last one first, down to the first that isn't at risk, and that one.
use Rattle.std.specs.Prelude.{ℕ, ◌≡◌, true, false, List, [], ◌∷◌, filter, slice_get, Option, None, Some, All}
use Rattle.std.specs.List.{range_with_len}
use Rattle.epochs.specs.declared.unit.Unit.{Unit as LogUnit}
use Rattle.cases.specs.declared.known.Over.{Over}
use Rattle.cases.specs.declared.known.SectorRow.{SectorRow}
use Rattle.cases.specs.Risk.{is_at_risk}
use Rattle.cases.specs.Rows.{row, part_with}
use Rattle.cases.specs.Cases.{matters}
use Rattle.cases.specs.Sets.{pieces_in}
use Rattle.cases.specs.AtCut.{CutValue, parts_of}
use Rattle.cases.specs.Table.{IsNext}

-- the last unit before cut k that covers sector s: it is at risk, with the number of its part, and its pieces that matter
pub record IsOver (at : CutValue) (k s : ℕ) (o : Over) : Type 0 where
  pub next : IsNext at.log k s o.unit
  pub risk : is_at_risk at.log.entries at.cut o.unit.entry ≡ true
  pub there : slice_get (parts_of at) o.part ≡ Some (part_with at.way at.log.entries o.unit)
  pub pieces : pieces_in o.pieces ≡ filter (matters at.log at.cut o.unit.sector o.unit (row at.log.entries o.unit.entry o.unit.sector)) (range_with_len 0 8)

-- the last unit before cut k that covers sector s isn't at risk, or there is none
abbrev pub IsBase : CutValue → ℕ → ℕ → Option LogUnit → Type 0
IsBase at k s None = row at.log.entries k s ≡ []
IsBase at k s (Some u) = IsNext at.log k s u × (is_at_risk at.log.entries at.cut u.entry ≡ false)

-- the units before cut k that cover sector s
abbrev pub AreOver : CutValue → ℕ → ℕ → List Over → Option LogUnit → Type 0
AreOver at k s [] base = IsBase at k s base
AreOver at k s (o ∷ os) base = IsOver at k s o × AreOver at o.unit.entry s os base

-- the row of a sector, from the cut down
abbrev pub IsRow : CutValue → SectorRow → Type 0
IsRow at r = AreOver at at.cut r.sector r.over.items r.base

-- some rows
abbrev pub AreRows : CutValue → List SectorRow → Type 0
AreRows at rows = All (IsRow at) rows
