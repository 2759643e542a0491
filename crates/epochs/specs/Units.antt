-- Units, and what makes them durable (docs/CRASH-MODEL.md, Terms). Entries are numbered from 0.
-- The name Unit is antt's own, so the code's type `Unit` is LogUnit here.
use Rattle.std.specs.Prelude.{ℕ, suc, ◌+◌, ◌*◌, Bool, false, if◌then◌else◌, List, [], ◌∷◌, ◌++◌, map, take, slice_get, count_by}
use Rattle.std.specs.List.{range_with_len, slice_range, list_any}
use Rattle.std.specs.Option.{option_map_or}
use Rattle.base.specs.Numbers.{zeros}
use Rattle.logfmt.specs.declared.entry.Entry.{Entry}
use Rattle.epochs.specs.declared.unit.Unit.{Unit as LogUnit}

-- unit j of entry e covers the device sector j after the entry's first
abbrev pub unit_of : ℕ → Entry → ℕ → LogUnit
unit_of e entry j = record { entry = e; place = j; sector = entry.sector + j }

-- the units of entry e, by sector
abbrev pub units_of_entry : ℕ → Entry → List LogUnit
units_of_entry e entry = map (unit_of e entry) (range_with_len 0 entry.count)

-- what each of some entries has, entry after entry, of which the first has number e
abbrev pub of_entries : {A : Type 0} → (ℕ → Entry → List A) → ℕ → List Entry → List A
of_entries own e [] = []
of_entries own e (entry ∷ rest) = own e entry ++ of_entries own (suc e) rest

-- the units before cut k, by entry and then by sector
abbrev pub units_before : List Entry → ℕ → List LogUnit
units_before es k = of_entries units_of_entry 0 (take k es)

-- the 512 bytes of a unit: its sector of the entry's data, zeros for a discard
unfoldable pub unit_content : List Entry → LogUnit → List ℕ
unit_content es u =
    option_map_or (λ (entry : Entry). if entry.flags.discard then zeros 512 else slice_range entry.content (512 * u.place) (512 * u.place + 512)) (slice_get es u.entry) []

-- entry e is forced to the device with its data (FUA)
abbrev pub is_forced : List Entry → ℕ → Bool
is_forced es e = option_map_or (λ (entry : Entry). entry.flags.fua) (slice_get es e) false

-- a flush entry stands after entry e and before cut k
abbrev pub is_flush_between : List Entry → ℕ → ℕ → Bool
is_flush_between es e k = list_any (λ (entry : Entry). entry.flags.flush) (slice_range es (e + 1) k)

-- the epoch of cut k: how many flush entries stand before it
abbrev pub epoch_at : List Entry → ℕ → ℕ
epoch_at es k = count_by (λ (entry : Entry). entry.flags.flush) (take k es)

-- how many marks stand before cut k
abbrev pub marks_at : List Entry → ℕ → ℕ
marks_at es k = count_by (λ (entry : Entry). entry.flags.mark) (take k es)
