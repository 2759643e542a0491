-- What a crash leaves on the device (docs/CRASH-MODEL.md, Fates and choices, Crash image). Byte i of sector s is byte
-- i of the last unit of sector s before the cut which reaches the device there.
use Rattle.std.specs.Prelude.{ℕ, ◌+◌, ◌-◌, ◌*◌, ◌==◌, nat_lt, nat_le, Bool, false, not, ◌&&◌, ◌||◌, List, map, filter, slice_index, None}
use Rattle.std.specs.List.{list_all, last_or, range_with_len}
use Rattle.std.specs.Option.{option_map_or}
use Rattle.logfmt.specs.Bounds.{LogValue}
use Rattle.logfmt.specs.Initial.{initial_byte}
use Rattle.epochs.specs.declared.part.Part.{Part}
use Rattle.epochs.specs.declared.unit.Unit.{Unit as LogUnit}
use Rattle.epochs.specs.Units.{units_before, unit_content}
use Rattle.choices.specs.declared.fate.Fate.{Fate}
use Rattle.choices.specs.declared.fate.Fate.TheVariants as fate
use Rattle.choices.specs.declared.choice.Departure.{Departure}

-- a part of that many sectors with that fate: whether its byte i reaches the device. An eighth of the part has 64 bytes for
-- each of its sectors
abbrev pub keeps : Fate → ℕ → ℕ → Bool
keeps fate.Drop count i = false
keeps (fate.Head eighths) count i = nat_lt i (64 * (eighths * count))
keeps (fate.Tail eighths) count i = nat_le (512 * count - 64 * (eighths * count)) i

-- a unit is one of a part
abbrev pub is_in : Part → LogUnit → Bool
is_in p u = (p.entry == u.entry) && (nat_le p.place u.place && nat_lt u.place (p.place + p.count))

-- the departures of the parts that a unit is in
unfoldable pub departures_of : List Departure → LogUnit → List Departure
departures_of ds u = filter (λ (d : Departure). is_in d.part u) ds

-- a unit's byte i among the bytes of a part
abbrev pub byte_in : Part → LogUnit → ℕ → ℕ
byte_in p u i = 512 * (u.place - p.place) + i

-- byte i of a unit reaches the device: each departure of a part with that unit keeps it, and a part without departure is
-- whole
unfoldable pub survives : List Departure → ℕ → LogUnit → Bool
survives ds i u = list_all (λ (d : Departure). not (is_in d.part u) || keeps d.fate d.part.count (byte_in d.part u i)) ds

-- a unit covers sector s, and its byte i reaches the device
unfoldable pub writes : List Departure → ℕ → ℕ → LogUnit → Bool
writes ds s i u = (u.sector == s) && survives ds i u

-- byte i of sector s as units of a log leave it, in their order: that of the last one that writes it, or where there is none the
-- byte that the device held before entry 0
unfoldable pub byte_after : LogValue → List LogUnit → List Departure → ℕ → ℕ → ℕ
byte_after log us ds s i =
    option_map_or (λ (u : LogUnit). slice_index (unit_content log.entries u) i) (last_or None (filter (writes ds s i) us)) (initial_byte log.initial s i)

unfoldable pub sector_after : LogValue → List LogUnit → List Departure → ℕ → List ℕ
sector_after log us ds s = map (byte_after log us ds s) (range_with_len 0 512)

-- the device as units of a log leave it
unfoldable pub device_after : LogValue → List LogUnit → List Departure → List (List ℕ)
device_after log us ds = map (sector_after log us ds) (range_with_len 0 log.sectors)

-- the crash image of cut k, with those departures
abbrev pub crash_image : LogValue → ℕ → List Departure → List (List ℕ)
crash_image log k ds = device_after log (units_before log.entries k) ds
