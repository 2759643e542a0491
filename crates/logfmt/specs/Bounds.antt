-- A log as a value: its device and its entries, within the limits of docs/LOG-FORMAT.md.
use Rattle.std.specs.Prelude.{ℕ, zero, suc, ◌+◌, ◌*◌, ◌^◌, ◌≡◌, ◌<◌, ◌≤◌, true, false, if◌then◌else◌, List, [], length, sum_by, slice_get, Some}
use Rattle.std.specs.List.{slice_index}
use Rattle.std.specs.Option.{option_map_or}
use Rattle.base.specs.Sizes.{most_sectors, most_log_bytes, most_units}
use Rattle.logfmt.specs.declared.entry.Entry.{Entry}

-- a log: the number of sectors of its device, its entries in order, and what the device held before entry 0: its first bytes,
-- with zeros after them
pub record LogValue : Type 0 where
  pub sectors : ℕ
  pub entries : List Entry
  pub initial : List ℕ

-- how many sectors of data follow the header of an entry: a discard has none
abbrev pub data_of : Entry → ℕ
data_of e = if e.flags.discard then 0 else e.count

-- how many units a list of entries has: one for each sector of a write or a discard
abbrev pub units_of : List Entry → ℕ
units_of es = sum_by (λ (e : Entry). e.count) es

-- the sector in which the header of entry i stands: the first is sector 1, and each stands after the
-- header and the data of the one before
abbrev pub data_at : List Entry → ℕ → ℕ
data_at es i = option_map_or data_of (slice_get es i) 0

abbrev pub place : List Entry → ℕ → ℕ
place es zero = 1
place es (suc i) = place es i + 1 + data_at es i

-- a mark writes nothing, and its text fits its header
pub record IsMark (e : Entry) : Type 0 where
  pub fua : e.flags.fua ≡ false
  pub discard : e.flags.discard ≡ false
  pub count : e.count ≡ 0
  pub text : length e.text ≤ 480

-- each number is a byte
abbrev pub AreBytes : List ℕ → Type 0
AreBytes bytes = (i : ℕ) → slice_index bytes i < 256

-- an entry for a device of that many sectors
pub record IsEntry (sectors : ℕ) (e : Entry) : Type 0 where
  pub fits : e.sector < 2 ^ 64
  pub mark : e.flags.mark ≡ true → IsMark e
  pub other : e.flags.mark ≡ false → e.text ≡ []
  pub device : 0 < e.count → e.sector + e.count ≤ sectors
  pub content : length e.content ≡ 512 * data_of e
  pub bytes : AreBytes e.content

-- each entry of the list is one for that device
abbrev pub AreEntries : ℕ → List Entry → Type 0
AreEntries sectors es = (i : ℕ) (e : Entry) → slice_get es i ≡ Some e → IsEntry sectors e

-- as entries are recorded: no mark is a flush too
abbrev pub AreRecorded : List Entry → Type 0
AreRecorded es = (i : ℕ) (e : Entry) → slice_get es i ≡ Some e → e.flags.mark ≡ true → e.flags.flush ≡ false

-- within the limits
pub record IsLog (log : LogValue) : Type 0 where
  pub some : 1 ≤ log.sectors
  pub device : log.sectors ≤ most_sectors
  pub count : length log.entries ≤ 65536
  pub units : units_of log.entries ≤ most_units
  pub entries : AreEntries log.sectors log.entries
  pub size : 512 * place log.entries (length log.entries) ≤ most_log_bytes
  pub held : length log.initial ≤ 512 * log.sectors
  pub initial : AreBytes log.initial
