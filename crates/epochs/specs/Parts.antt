-- Parts and the volatile parts of a cut (docs/CRASH-MODEL.md, Terms). A part is what departs as one: by sector each unit of
-- an entry, by write all units of an entry together.
use Rattle.std.specs.Prelude.{ℕ, ◌+◌, ◌*◌, ◌==◌, Bool, not, ◌&&◌, if◌then◌else◌, List, map, filter, take}
use Rattle.std.specs.List.{range_with_len}
use Rattle.logfmt.specs.declared.entry.Entry.{Entry}
use Rattle.epochs.specs.declared.part.Part.{Part}
use Rattle.epochs.specs.declared.part.By.{By}
use Rattle.epochs.specs.declared.part.By.TheVariants as by
use Rattle.epochs.specs.Units.{of_entries, is_forced, is_flush_between}

-- how many sectors a part of an entry has
abbrev pub part_size : By → Entry → ℕ
part_size by.Sector entry = 1
part_size by.Write entry = entry.count

-- how many parts an entry has; one without sectors has none
abbrev pub part_count : By → Entry → ℕ
part_count by.Sector entry = entry.count
part_count by.Write entry = if entry.count == 0 then 0 else 1

-- part j of entry e: as many sectors, after those of the parts before it
abbrev pub part_of : By → ℕ → Entry → ℕ → Part
part_of way e entry j = record {
  entry = e;
  place = j * part_size way entry;
  count = part_size way entry;
  sector = entry.sector + j * part_size way entry;
}

-- the parts of entry e, by sector
abbrev pub parts_of_entry : By → ℕ → Entry → List Part
parts_of_entry way e entry = map (part_of way e entry) (range_with_len 0 (part_count way entry))

-- the parts before cut k, by entry and then by sector
abbrev pub parts_before : By → List Entry → ℕ → List Part
parts_before way es k = of_entries (parts_of_entry way) 0 (take k es)

-- a part before cut k that is volatile there
abbrev pub is_volatile : List Entry → ℕ → Part → Bool
is_volatile es k p = not (is_forced es p.entry) && not (is_flush_between es p.entry k)

-- the volatile parts of cut k, in order
unfoldable pub volatile_parts : By → List Entry → ℕ → List Part
volatile_parts way es k = filter (is_volatile es k) (parts_before way es k)
