-- The first fault of bytes that are no log, by the order of the checks (docs/LOG-FORMAT.md, Refusals).
-- It speaks of the bytes and of the limits alone. Sums are of whole numbers and do not wrap.
use Rattle.std.specs.Prelude.{ℕ, zero, suc, ◌+◌, ◌*◌, ◌≡◌, ◌==◌, ◌<◌, ◌≤◌, Bool, not, ◌&&◌, ◌||◌, nat_lt, nat_le, if◌then◌else◌, List, [], ◌∷◌, length, Option, None, Some}
use Rattle.base.specs.Check.{Check, check, first_failing}
use Rattle.base.specs.Sizes.{byte_limit, most_log_bytes, unit_limit}
use Rattle.base.specs.declared.limits.Limits.{Limits}
use Rattle.base.specs.Numbers.{number_at}
use Rattle.base.specs.declared.causes.LogCause.{LogCause}
use Rattle.base.specs.declared.causes.LogCause.TheVariants as cause
use Rattle.logfmt.specs.Flags.{has_bit}

-- the fields of the header in sector p
abbrev pub sector_at : List ℕ → ℕ → ℕ
sector_at bytes p = number_at 8 (512 * p) bytes

abbrev pub count_at : List ℕ → ℕ → ℕ
count_at bytes p = number_at 8 (512 * p + 8) bytes

abbrev pub word_at : List ℕ → ℕ → ℕ
word_at bytes p = number_at 8 (512 * p + 16) bytes

abbrev pub length_at : List ℕ → ℕ → ℕ
length_at bytes p = number_at 8 (512 * p + 24) bytes

abbrev pub data_sectors : List ℕ → ℕ → ℕ
data_sectors bytes p = if has_bit (word_at bytes p) 4 then 0 else count_at bytes p

-- the sector of the header of entry i, and the units of the entries before it, as the headers tell
abbrev pub header : List ℕ → ℕ → ℕ
header bytes zero = 1
header bytes (suc i) = header bytes i + 1 + data_sectors bytes (header bytes i)

abbrev pub units_before : List ℕ → ℕ → ℕ
units_before bytes zero = 0
units_before bytes (suc i) = units_before bytes i + count_at bytes (header bytes i)

-- the checks of the super block, in their order
unfoldable pub super_checks : List ℕ → Limits → List (Check LogCause)
super_checks bytes limits =
    check cause.Short (nat_le 512 (length bytes))
    ∷ check cause.Limit (nat_le (length bytes) (byte_limit limits))
    ∷ check cause.Magic (number_at 8 0 bytes == 0x6a736677736872)
    ∷ check cause.Version (number_at 8 8 bytes == 1)
    ∷ check cause.SectorSize (number_at 4 24 bytes == 512)
    ∷ check cause.Limit (nat_le (number_at 8 16 bytes) 65536)
    ∷ []

-- a mark has none of the flags flush, FUA and discard, no sectors, and its text fits its header
unfoldable pub has_mark_form : ℕ → ℕ → ℕ → Bool
has_mark_form word count length =
    not (has_bit word 1) && not (has_bit word 2) && not (has_bit word 4) && (count == 0) && nat_le length 480

-- the checks of the entry whose header stands in sector p, after entries of that many units
unfoldable pub entry_checks : List ℕ → ℕ → Limits → ℕ → ℕ → List (Check LogCause)
entry_checks bytes sectors limits p units =
    check cause.CutShort (nat_le (512 * (p + 1)) (length bytes))
    ∷ check cause.Flags (nat_lt (word_at bytes p) 32)
    ∷ check cause.DataLength (has_bit (word_at bytes p) 8 || (length_at bytes p == 0))
    ∷ check cause.MarkForm (not (has_bit (word_at bytes p) 8) || has_mark_form (word_at bytes p) (count_at bytes p) (length_at bytes p))
    ∷ check cause.Device ((count_at bytes p == 0) || nat_le (sector_at bytes p + count_at bytes p) sectors)
    ∷ check cause.Limit (nat_le (units + count_at bytes p) (unit_limit limits))
    ∷ check cause.CutShort (nat_le (512 * (p + 1 + data_sectors bytes p)) (length bytes))
    ∷ []

-- the cause at entry i, if there is one
abbrev pub entry_fault : List ℕ → ℕ → Limits → ℕ → Option LogCause
entry_fault bytes sectors limits i = first_failing (entry_checks bytes sectors limits (header bytes i) (units_before bytes i))

-- the first n entries pass
abbrev pub EntriesPass : List ℕ → ℕ → Limits → ℕ → Type 0
EntriesPass bytes sectors limits n = (i : ℕ) → i < n → entry_fault bytes sectors limits i ≡ None

-- the first fault is this cause, in the super block (at 0) or at that entry
pub data FirstFault (bytes : List ℕ) (sectors : ℕ) (limits : Limits) : LogCause → ℕ → Type 0 where
  in_super : (c : LogCause) → first_failing (super_checks bytes limits) ≡ Some c → FirstFault bytes sectors limits c 0
  in_entry : (c : LogCause) (at : ℕ) → first_failing (super_checks bytes limits) ≡ None → at < number_at 8 16 bytes → EntriesPass bytes sectors limits at
      → entry_fault bytes sectors limits at ≡ Some c → FirstFault bytes sectors limits c at

-- no check fails
abbrev pub HasNoFault : List ℕ → ℕ → Limits → Type 0
HasNoFault bytes sectors limits = (first_failing (super_checks bytes limits) ≡ None) × EntriesPass bytes sectors limits (number_at 8 16 bytes)

-- what the checks of the super block and of an entry leave standing
pub record SuperPasses (bytes : List ℕ) (limits : Limits) : Type 0 where
  pub whole : 512 ≤ length bytes
  pub size : length bytes ≤ byte_limit limits
  pub most : length bytes ≤ most_log_bytes
  pub magic : number_at 8 0 bytes ≡ 0x6a736677736872
  pub version : number_at 8 8 bytes ≡ 1
  pub sector_size : number_at 4 24 bytes ≡ 512
  pub count : number_at 8 16 bytes ≤ 65536
