-- A log to which flushes are added (docs/CRASH-MODEL.md, Added flushes): as if a flush without a number and sectors stood right
-- before each of some entries. Each of these counts as a flush entry; what it writes, and all numbers, stay.
use Rattle.std.specs.Prelude.{ℕ, suc, ◌==◌, true, if◌then◌else◌, Bool, List, [], ◌∷◌}
use Rattle.std.specs.List.{list_any}
use Rattle.logfmt.specs.declared.entry.Entry.{Entry}
use Rattle.logfmt.specs.Bounds.{LogValue}

-- an entry as a flush entry
abbrev pub with_flush : Entry → Entry
with_flush e = record e { flags = record e.flags { flush = true } }

-- entries, of which those at some numbers become flush entries
abbrev pub flushed_at : (ℕ → Bool) → List Entry → List Entry
flushed_at chosen [] = []
flushed_at chosen (e ∷ rest) = (if chosen 0 then with_flush e else e) ∷ flushed_at (λ number. chosen (suc number)) rest

-- whether a number is one of some places
abbrev pub is_place : List ℕ → ℕ → Bool
is_place places number = list_any (λ (place : ℕ). place == number) places

-- the log with a flush right before each of these entries
abbrev pub with_flushes : List ℕ → LogValue → LogValue
with_flushes places log = record { sectors = log.sectors; entries = flushed_at (is_place places) log.entries; initial = log.initial }
