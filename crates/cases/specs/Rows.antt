-- The row of a sector at a cut: the units that cover it, the last one first, and what each may leave of its pieces
-- (docs/CRASH-MODEL.md, Any number of losses).
use Rattle.std.specs.Prelude.{ℕ, ◌+◌, ◌*◌, Bool, true, if◌then◌else◌, List, [], ◌∷◌, reverse, slice_get, Option, None, Some}
use Rattle.std.specs.List.{slice_range}
use Rattle.std.specs.Option.{option_map_or}
use Rattle.logfmt.specs.declared.entry.Entry.{Entry}
use Rattle.logfmt.specs.Bounds.{LogValue}
use Rattle.logfmt.specs.Initial.{initial_sector}
use Rattle.epochs.specs.declared.unit.Unit.{Unit as LogUnit}
use Rattle.epochs.specs.declared.part.Part.{Part}
use Rattle.epochs.specs.declared.part.By.{By}
use Rattle.epochs.specs.declared.part.By.TheVariants as by
use Rattle.epochs.specs.Units.{units_before, unit_content}
use Rattle.choices.specs.declared.fate.Fate.{Fate}
use Rattle.images.specs.Images.{keeps, byte_in}
use Rattle.images.specs.Table.{covering}
use Rattle.cases.specs.Risk.{is_at_risk}

-- the units before cut k that cover sector s, the last one first
abbrev pub row : List Entry → ℕ → ℕ → List LogUnit
row es k s = covering s (reverse (units_before es k))

-- the part that a unit is of
abbrev pub part_with : By → List Entry → LogUnit → Part
part_with by.Sector es u = record { entry = u.entry; place = u.place; count = 1; sector = u.sector }
part_with by.Write es u = record {
  entry = u.entry;
  place = 0;
  count = option_map_or (λ (entry : Entry). entry.count) (slice_get es u.entry) 0;
  sector = option_map_or (λ (entry : Entry). entry.sector) (slice_get es u.entry) 0;
}

-- piece i of a sector, of eight: its bytes from 64 * i on
abbrev pub piece : ℕ → List ℕ → List ℕ
piece i sector = slice_range sector (64 * i) (64 * i + 64)

-- whether a part with that fate shows piece i of a unit of it
abbrev pub shows : Option Fate → Part → LogUnit → ℕ → Bool
shows None p u i = true
shows (Some f) p u i = keeps f p.count (byte_in p u (64 * i))

-- What sector s may hold below a unit of its row: the content of each unit at risk there, down to the first that isn't, and of that;
-- or what the device held before entry 0.
abbrev pub candidates : LogValue → ℕ → ℕ → List LogUnit → List (List ℕ)
candidates log k s [] = initial_sector log.initial s ∷ []
candidates log k s (u ∷ below) = unit_content log.entries u ∷ (if is_at_risk log.entries k u.entry then candidates log k s below else [])
