-- The super block and the header of an entry as they are read: what their checks leave standing.
use Rattle.std.specs.Prelude.{ℕ, ◌+◌, ◌*◌, ◌≡◌, ◌<◌, ◌≤◌, true, false, if◌then◌else◌, List, length}
use Rattle.std.specs.List.{slice_range}
use Rattle.base.specs.Numbers.{number_at}
use Rattle.logfmt.specs.declared.entry.Entry.{Entry}
use Rattle.logfmt.specs.Bounds.{data_of}
use Rattle.logfmt.specs.Flags.{flag_word, has_bit}
use Rattle.raw_log.specs.declared.header.RawHeader.{RawHeader}
use Rattle.raw_log.specs.Raw.{IsTimes, bytes_in}
use Rattle.raw_log.specs.Faults.{times_at, sector_at, count_at, word_at, length_at, data_sectors}

-- the super block of a raw log whose sectors have 512 * k bytes
pub record SuperStands (bytes : List ℕ) (k : ℕ) : Type 0 where
  pub times : IsTimes k
  pub told : times_at bytes ≡ k
  pub whole : bytes_in k 1 ≤ length bytes
  pub magic : number_at 8 0 bytes ≡ 0x6a736677736872
  pub version : number_at 8 8 bytes ≡ 1
  pub sector_size : number_at 4 24 bytes ≡ bytes_in k 1
  pub count : number_at 8 16 bytes ≤ 65536

-- a mark of the right form
pub record IsMarkHeader (h : RawHeader) : Type 0 where
  pub flush : h.flags.flush ≡ false
  pub fua : h.flags.fua ≡ false
  pub discard : h.flags.discard ≡ false
  pub count : h.count ≡ 0
  pub text : h.text_length ≤ 480

-- a header in sectors of 512 bytes, of which k are one of the raw log
abbrev pub divided_header : ℕ → RawHeader → RawHeader
divided_header k h = record h { sector = k * h.sector; count = k * h.count }

-- the header, in sectors of 512 bytes, stands in the raw log's sector that begins at byte s, and its data after it
pub record HeaderStands (k : ℕ) (bytes : List ℕ) (s : ℕ) (h : RawHeader) : Type 0 where
  pub sector : h.sector ≡ k * sector_at bytes s
  pub count : h.count ≡ k * count_at bytes s
  pub flags : flag_word h.flags ≡ word_at bytes s
  pub discard : h.flags.discard ≡ has_bit (word_at bytes s) 4
  pub text_length : h.text_length ≡ length_at bytes s
  pub whole : s + bytes_in k (1 + data_sectors bytes s) ≤ length bytes

-- the header is one for a device of that many sectors
pub record HeaderFits (sectors : ℕ) (h : RawHeader) : Type 0 where
  pub mark : h.flags.mark ≡ true → IsMarkHeader h
  pub other : h.flags.mark ≡ false → h.text_length ≡ 0
  pub device : 0 < h.count → h.sector + h.count ≤ sectors

-- the bytes of its data
abbrev pub data_bytes : RawHeader → ℕ
data_bytes h = 512 * (if h.flags.discard then 0 else h.count)

-- the entry, in sectors of 512 bytes, has its header in the raw log's sector that begins at byte s, and its data after it
pub record StandsDivided (k : ℕ) (bytes : List ℕ) (s : ℕ) (e : Entry) : Type 0 where
  pub whole : s + bytes_in k 1 + 512 * data_of e ≤ length bytes
  pub sector : e.sector ≡ k * number_at 8 s bytes
  pub count : e.count ≡ k * number_at 8 (s + 8) bytes
  pub flags : flag_word e.flags ≡ number_at 8 (s + 16) bytes
  pub text_length : length e.text ≡ number_at 8 (s + 24) bytes
  pub text : e.text ≡ slice_range bytes (s + 32) (s + 32 + length e.text)
  pub content : e.content ≡ slice_range bytes (s + bytes_in k 1) (s + bytes_in k 1 + 512 * data_of e)
