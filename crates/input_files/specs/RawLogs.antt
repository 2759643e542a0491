-- The first bytes of a raw log, which are read of it: those that its entries need (docs/LOG-FORMAT.md, Importing a raw log).
use Rattle.std.specs.Prelude.{ℕ, ◌+◌, ◌-◌, ◌≡◌, ◌==◌, ◌<◌, ◌≤◌, Bool, true, ◌||◌, min, if◌then◌else◌, List, length, take}
use Rattle.base.specs.declared.limits.Limits.{Limits}
use Rattle.base.specs.Sizes.{raw_limit}
use Rattle.base.specs.Numbers.{number_at}
use Rattle.base.specs.declared.causes.LogCause.{LogCause}
use Rattle.logfmt.specs.declared.entry.Entry.{Entry}
use Rattle.logfmt.specs.Bounds.{place}
use Rattle.raw_log.specs.Raw.{RawText, bytes_in}
use Rattle.raw_log.specs.Faults.{FirstRawFault, size_at, times_at, header}
use Rattle.raw_log.specs.Imported.{IsImported, IsImportable}

-- whether the super block tells a size that the sectors of a raw log may have
abbrev pub is_known : List ℕ → Bool
is_known bytes = (size_at bytes == 512) || (size_at bytes == 4096)

-- how many entries the super block tells
abbrev pub entries_of : List ℕ → ℕ
entries_of bytes = number_at 8 16 bytes

-- how many bytes of a raw log are needed: up to where its last entry ends, as the headers tell, and at most the limit
unfoldable pub needed_length : Limits → List ℕ → ℕ
needed_length limits bytes = if is_known bytes then min (raw_limit limits) (header (times_at bytes) bytes (entries_of bytes)) else 512

-- the bytes that are read of a raw log
abbrev pub read_raw : Limits → List ℕ → List ℕ
read_raw limits bytes = take (needed_length limits bytes) bytes

-- what is imported of the bytes that are read is imported of the raw log: the bytes after change nothing
abbrev pub RawIsImportedAlike : Type 0
RawIsImportedAlike =
    (bytes text : List ℕ) (sectors : ℕ) (limits : Limits) → IsImported (read_raw limits bytes) sectors limits text → IsImported bytes sectors limits text

-- a fault of the bytes that are read is one of the raw log: they reach far enough
abbrev pub RawIsRefusedAlike : Type 0
RawIsRefusedAlike =
    (bytes : List ℕ) (sectors : ℕ) (limits : Limits) (c : LogCause) (at : ℕ) → FirstRawFault (read_raw limits bytes) sectors limits c at
    → FirstRawFault bytes sectors limits c at

-- of a raw log that can be imported no more is read than its entries need; of no file more than the limit
abbrev pub NoMoreIsRead : Type 0
NoMoreIsRead =
    (k sectors : ℕ) (limits : Limits) (bytes : List ℕ) (es : List Entry) → RawText k bytes es → IsImportable k sectors limits es
    → length (read_raw limits bytes) ≤ bytes_in k (place es (length es))

abbrev pub ReadRawIsShort : Type 0
ReadRawIsShort = (limits : Limits) (bytes : List ℕ) → length (read_raw limits bytes) ≤ raw_limit limits

-- the headers before that of the entry which is the last but `left` are read, and it ends at byte `reached`
pub record IsNext (bytes : List ℕ) (size reached left : ℕ) : Type 0 where
  pub known : is_known bytes ≡ true
  pub sector : size ≡ size_at bytes
  pub some : left ≤ entries_of bytes
  pub ends : reached ≡ header (times_at bytes) bytes (entries_of bytes - left) + size

-- how far a raw log is to be read: to the end of the header of the first entry that is left, or else to the end of what is needed
pub record IsReach (limits : Limits) (bytes : List ℕ) (size reached left : ℕ) : Type 0 where
  pub next : 0 < left → IsNext bytes size reached left
  pub last : left ≡ 0 → reached ≡ needed_length limits bytes
