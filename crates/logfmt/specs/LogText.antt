-- The text of a log: where each field stands (docs/LOG-FORMAT.md, after the header file of Linux's
-- dm-log-writes). Positions are counted in sectors of 512 bytes.
use Rattle.std.specs.Prelude.{ℕ, ◌+◌, ◌*◌, ◌-◌, ◌≡◌, ◌≤◌, List, ◌++◌, length, slice_get, Some}
use Rattle.std.specs.List.{slice_range, flat_map}
use Rattle.base.specs.Sizes.{most_log_bytes}
use Rattle.base.specs.Numbers.{number_at, number_bytes, zeros}
use Rattle.logfmt.specs.declared.entry.Entry.{Entry}
use Rattle.logfmt.specs.Flags.{flag_word}
use Rattle.logfmt.specs.Bounds.{LogValue, IsLog, AreRecorded, data_of, place}

-- sector 0 is the super block of a log of that many entries
pub record IsSuper (bytes : List ℕ) (count : ℕ) : Type 0 where
  pub whole : 512 ≤ length bytes
  pub magic : number_at 8 0 bytes ≡ 0x6a736677736872
  pub version : number_at 8 8 bytes ≡ 1
  pub entries : number_at 8 16 bytes ≡ count
  pub sector_size : number_at 4 24 bytes ≡ 512

-- the entry has its header in sector p, and its data after it
pub record StandsAt (bytes : List ℕ) (p : ℕ) (e : Entry) : Type 0 where
  pub whole : 512 * (p + 1 + data_of e) ≤ length bytes
  pub sector : e.sector ≡ number_at 8 (512 * p) bytes
  pub count : e.count ≡ number_at 8 (512 * p + 8) bytes
  pub flags : flag_word e.flags ≡ number_at 8 (512 * p + 16) bytes
  pub text_length : length e.text ≡ number_at 8 (512 * p + 24) bytes
  pub text : e.text ≡ slice_range bytes (512 * p + 32) (512 * p + 32 + length e.text)
  pub content : e.content ≡ slice_range bytes (512 * (p + 1)) (512 * (p + 1 + data_of e))

-- each entry stands at its place in the bytes
abbrev pub AllStand : List ℕ → List Entry → Type 0
AllStand bytes es = (i : ℕ) (e : Entry) → slice_get es i ≡ Some e → StandsAt bytes (place es i) e

-- the bytes are a text of that log
pub record LogText (bytes : List ℕ) (log : LogValue) : Type 0 where
  pub size : length bytes ≤ most_log_bytes
  pub super : IsSuper bytes (length log.entries)
  pub stands : AllStand bytes log.entries
  pub bounds : IsLog log
  pub recorded : AreRecorded log.entries

-- the canonical text: zeros in all unused places, nothing after the last entry
unfoldable pub super_sector : ℕ → List ℕ
super_sector count =
    number_bytes 8 0x6a736677736872 ++ number_bytes 8 1 ++ number_bytes 8 count ++ number_bytes 4 512 ++ zeros 484

unfoldable pub header_sector : Entry → List ℕ
header_sector e =
    number_bytes 8 e.sector ++ number_bytes 8 e.count ++ number_bytes 8 (flag_word e.flags)
    ++ number_bytes 8 (length e.text) ++ e.text ++ zeros (480 - length e.text)

abbrev pub entry_sectors : Entry → List ℕ
entry_sectors e = header_sector e ++ e.content

abbrev pub canonical_text : List Entry → List ℕ
canonical_text es = super_sector (length es) ++ flat_map entry_sectors es
