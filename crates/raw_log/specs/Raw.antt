-- The bytes of a raw log, whose sectors have 512 * k bytes (docs/LOG-FORMAT.md, Importing a raw log). Its entries are in these
-- sectors: `place` counts them, and so do the fields sector and count.
use Rattle.std.specs.Prelude.{ℕ, ◌+◌, ◌*◌, ◌≡◌, ◌≤◌, ◌⊎◌, List, length, slice_get, Some}
use Rattle.std.specs.List.{slice_range}
use Rattle.base.specs.Numbers.{number_at}
use Rattle.logfmt.specs.declared.entry.Entry.{Entry}
use Rattle.logfmt.specs.Flags.{flag_word}
use Rattle.logfmt.specs.Bounds.{data_of, place}

-- a sector has 512 or 4,096 bytes
abbrev pub IsTimes : ℕ → Type 0
IsTimes k = (k ≡ 1) ⊎ (k ≡ 8)

-- how many bytes n sectors have
abbrev pub bytes_in : ℕ → ℕ → ℕ
bytes_in k n = 512 * (k * n)

-- sector 0 is the super block of a raw log of that many entries
pub record IsRawSuper (k : ℕ) (bytes : List ℕ) (count : ℕ) : Type 0 where
  pub whole : bytes_in k 1 ≤ length bytes
  pub magic : number_at 8 0 bytes ≡ 0x6a736677736872
  pub version : number_at 8 8 bytes ≡ 1
  pub entries : number_at 8 16 bytes ≡ count
  pub sector_size : number_at 4 24 bytes ≡ bytes_in k 1

-- the entry has its header in the sector that begins at byte s, and its data in the sectors after it
pub record StandsRaw (k : ℕ) (bytes : List ℕ) (s : ℕ) (e : Entry) : Type 0 where
  pub whole : s + bytes_in k (1 + data_of e) ≤ length bytes
  pub sector : e.sector ≡ number_at 8 s bytes
  pub count : e.count ≡ number_at 8 (s + 8) bytes
  pub flags : flag_word e.flags ≡ number_at 8 (s + 16) bytes
  pub text_length : length e.text ≡ number_at 8 (s + 24) bytes
  pub text : e.text ≡ slice_range bytes (s + 32) (s + 32 + length e.text)
  pub content : e.content ≡ slice_range bytes (s + bytes_in k 1) (s + bytes_in k (1 + data_of e))

-- each entry stands at its place in the bytes
abbrev pub AllStandRaw : ℕ → List ℕ → List Entry → Type 0
AllStandRaw k bytes es = (i : ℕ) (e : Entry) → slice_get es i ≡ Some e → StandsRaw k bytes (bytes_in k (place es i)) e

-- the bytes are a raw log of these entries
pub record RawText (k : ℕ) (bytes : List ℕ) (es : List Entry) : Type 0 where
  pub times : IsTimes k
  pub super : IsRawSuper k bytes (length es)
  pub stands : AllStandRaw k bytes es
