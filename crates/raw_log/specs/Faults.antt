-- The first fault of bytes of which no log can be imported, by the order of the checks (docs/LOG-FORMAT.md, Importing a raw log).
-- It speaks of the bytes alone. Sums and products are of whole numbers and do not wrap.
use Rattle.std.specs.Prelude.{ℕ, zero, suc, ◌+◌, ◌-◌, ◌*◌, ◌/◌, ◌^◌, ◌≡◌, ◌==◌, ◌<◌, Bool, not, ◌&&◌, ◌||◌, nat_lt, nat_le, if◌then◌else◌, List, [], ◌∷◌, length, Option, None, Some}
use Rattle.base.specs.Sizes.{byte_limit, raw_limit, unit_limit}
use Rattle.base.specs.declared.limits.Limits.{Limits}
use Rattle.base.specs.Check.{Check, check, first_failing}
use Rattle.base.specs.Numbers.{number_at}
use Rattle.base.specs.declared.causes.LogCause.{LogCause}
use Rattle.base.specs.declared.causes.LogCause.TheVariants as cause
use Rattle.logfmt.specs.Flags.{has_bit}
use Rattle.logfmt.specs.Faults.{has_mark_form}
use Rattle.raw_log.specs.Raw.{bytes_in}

-- the size of a sector, and how many sectors of 512 bytes it is
abbrev pub size_at : List ℕ → ℕ
size_at bytes = number_at 4 24 bytes

abbrev pub times_at : List ℕ → ℕ
times_at bytes = size_at bytes / 512

-- the fields of the header in the sector that begins at byte s
abbrev pub sector_at : List ℕ → ℕ → ℕ
sector_at bytes s = number_at 8 s bytes

abbrev pub count_at : List ℕ → ℕ → ℕ
count_at bytes s = number_at 8 (s + 8) bytes

abbrev pub word_at : List ℕ → ℕ → ℕ
word_at bytes s = number_at 8 (s + 16) bytes

abbrev pub length_at : List ℕ → ℕ → ℕ
length_at bytes s = number_at 8 (s + 24) bytes

abbrev pub data_sectors : List ℕ → ℕ → ℕ
data_sectors bytes s = if has_bit (word_at bytes s) 4 then 0 else count_at bytes s

-- the byte at which the header of entry i begins, and of the entries before it the units, and the bytes of the log that comes out,
-- as the headers tell
abbrev pub header : ℕ → List ℕ → ℕ → ℕ
header k bytes zero = bytes_in k 1
header k bytes (suc i) = header k bytes i + bytes_in k (1 + data_sectors bytes (header k bytes i))

abbrev pub units_before : ℕ → List ℕ → ℕ → ℕ
units_before k bytes zero = 0
units_before k bytes (suc i) = units_before k bytes i + k * count_at bytes (header k bytes i)

abbrev pub written_before : ℕ → List ℕ → ℕ → ℕ
written_before k bytes zero = 512
written_before k bytes (suc i) = written_before k bytes i + 512 * (1 + k * data_sectors bytes (header k bytes i))

-- the checks of the super block, in their order
unfoldable pub raw_super_checks : List ℕ → List (Check LogCause)
raw_super_checks bytes =
    check cause.Short (nat_le 512 (length bytes))
    ∷ check cause.Magic (number_at 8 0 bytes == 0x6a736677736872)
    ∷ check cause.Version (number_at 8 8 bytes == 1)
    ∷ check cause.SectorSize ((size_at bytes == 512) || (size_at bytes == 4096))
    ∷ check cause.Short (nat_le (size_at bytes) (length bytes))
    ∷ check cause.Limit (nat_le (number_at 8 16 bytes) 65536)
    ∷ []

-- an entry lies on the device, or has no sectors; in either case the number of its first sector of 512 bytes is one of a log
abbrev pub is_on_device : ℕ → ℕ → ℕ → ℕ → Bool
is_on_device k sectors sector count = nat_lt (k * sector) (2 ^ 64) && ((count == 0) || nat_le (k * sector + k * count) sectors)

-- the checks of the entry whose header begins at byte s, after entries of that many units, where the log that comes out has room for
-- that many bytes more
unfoldable pub raw_entry_checks : ℕ → List ℕ → ℕ → Limits → ℕ → ℕ → ℕ → List (Check LogCause)
raw_entry_checks k bytes sectors limits s units room =
    check cause.Limit (nat_le (s + bytes_in k 1) (raw_limit limits))
    ∷ check cause.CutShort (nat_le (s + bytes_in k 1) (length bytes))
    ∷ check cause.Flags (nat_lt (word_at bytes s) 32)
    ∷ check cause.DataLength (has_bit (word_at bytes s) 8 || (length_at bytes s == 0))
    ∷ check cause.MarkForm (not (has_bit (word_at bytes s) 8) || has_mark_form (word_at bytes s) (count_at bytes s) (length_at bytes s))
    ∷ check cause.Device (is_on_device k sectors (sector_at bytes s) (count_at bytes s))
    ∷ check cause.Limit (nat_le (units + k * count_at bytes s) (unit_limit limits))
    ∷ check cause.Limit (nat_le (512 * (1 + k * data_sectors bytes s)) room)
    ∷ check cause.Limit (nat_le (s + bytes_in k (1 + data_sectors bytes s)) (raw_limit limits))
    ∷ check cause.CutShort (nat_le (s + bytes_in k (1 + data_sectors bytes s)) (length bytes))
    ∷ []

-- the cause at entry i, if there is one
abbrev pub raw_entry_fault : ℕ → List ℕ → ℕ → Limits → ℕ → Option LogCause
raw_entry_fault k bytes sectors limits i =
    first_failing (raw_entry_checks k bytes sectors limits (header k bytes i) (units_before k bytes i) (byte_limit limits - written_before k bytes i))

-- the first n entries pass
abbrev pub EntriesPass : List ℕ → ℕ → Limits → ℕ → Type 0
EntriesPass bytes sectors limits n = (i : ℕ) → i < n → raw_entry_fault (times_at bytes) bytes sectors limits i ≡ None

-- the first fault is this cause, in the super block (at 0) or at that entry
pub data FirstRawFault (bytes : List ℕ) (sectors : ℕ) (limits : Limits) : LogCause → ℕ → Type 0 where
  in_super : (c : LogCause) → first_failing (raw_super_checks bytes) ≡ Some c → FirstRawFault bytes sectors limits c 0
  in_entry : (c : LogCause) (at : ℕ) → first_failing (raw_super_checks bytes) ≡ None → at < number_at 8 16 bytes → EntriesPass bytes sectors limits at
      → raw_entry_fault (times_at bytes) bytes sectors limits at ≡ Some c → FirstRawFault bytes sectors limits c at

-- no check fails
abbrev pub HasNoRawFault : List ℕ → ℕ → Limits → Type 0
HasNoRawFault bytes sectors limits = (first_failing (raw_super_checks bytes) ≡ None) × EntriesPass bytes sectors limits (number_at 8 16 bytes)
