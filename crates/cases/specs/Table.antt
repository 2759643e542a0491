-- What a cut keeps beside its log, and the units that cover a sector, one after the other.
use Rattle.std.specs.Prelude.{ℕ, ◌≡◌, ◌-◌, ◌<◌, ◌≤◌, ◌∷◌, nat_lt, nat_le, Bool, true, not, ◌||◌, if◌then◌else◌, List, length, bytes_eq, Option, None, Some}
use Rattle.logfmt.specs.declared.entry.Entry.{Entry}
use Rattle.logfmt.specs.Bounds.{LogValue, IsLog}
use Rattle.epochs.specs.declared.part.Part.{Part}
use Rattle.epochs.specs.declared.unit.Unit.{Unit as LogUnit}
use Rattle.epochs.specs.Laws.{last_flush}
use Rattle.epochs.specs.Plan.{IsUnit}
use Rattle.cases.specs.Risk.{is_at_risk}
use Rattle.cases.specs.Rows.{row, piece, part_with, shows}
use Rattle.cases.specs.Cases.{Case, representative}
use Rattle.cases.specs.AtCut.{CutValue, parts_of, Apart}

-- the parts at risk, each once, and the last flush entry before the cut
pub record IsCut (at : CutValue) (flush : ℕ) (parts : List Part) : Type 0 where
  pub bounds : IsLog at.log
  pub within : at.cut ≤ length at.log.entries
  pub flushed : flush ≡ last_flush at.log.entries at.cut
  pub listed : parts ≡ parts_of at
  pub apart : Apart (parts_of at)

-- the unit of entry e that covers sector s
abbrev pub unit_over : ℕ → Entry → ℕ → Option LogUnit
unit_over e entry s = if nat_lt s entry.sector || nat_le entry.count (s - entry.sector) then None else Some (record { entry = e; place = s - entry.sector; sector = s })

-- the last unit before cut k that covers sector s, with what is below it
pub record IsNext (log : LogValue) (k s : ℕ) (u : LogUnit) : Type 0 where
  pub unit : IsUnit log u
  pub before : u.entry < k
  pub over : u.sector ≡ s
  pub rest : row log.entries k s ≡ u ∷ row log.entries u.entry s

-- two sectors differ in piece i
abbrev pub difference : List ℕ → List ℕ → ℕ → Bool
difference one other i = not (bytes_eq (piece i other) (piece i one))

-- with the representative of a case a unit leaves piece i of its sector on the device
abbrev pub leaves_piece : CutValue → Case → LogUnit → ℕ → Bool
leaves_piece at c u i =
    if is_at_risk at.log.entries at.cut u.entry then shows (representative c (part_with at.way at.log.entries u)) (part_with at.way at.log.entries u) u i else true
