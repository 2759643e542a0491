-- The header of an entry as it is read: what its checks leave standing.
use Rattle.std.specs.Prelude.{ℕ, ◌+◌, ◌*◌, ◌≡◌, ◌<◌, ◌≤◌, true, false, List, length}
use Rattle.logfmt.specs.declared.header.Header.{Header}
use Rattle.logfmt.specs.Flags.{flag_word, has_bit}
use Rattle.logfmt.specs.Faults.{sector_at, count_at, word_at, length_at, data_sectors}

-- a mark of the right form
pub record IsMarkHeader (h : Header) : Type 0 where
  pub flush : h.flags.flush ≡ false
  pub fua : h.flags.fua ≡ false
  pub discard : h.flags.discard ≡ false
  pub count : h.count ≡ 0
  pub text : h.text_length ≤ 480

-- the header stands in sector p, and its data after it
pub record HeaderStands (bytes : List ℕ) (p : ℕ) (h : Header) : Type 0 where
  pub sector : h.sector ≡ sector_at bytes p
  pub count : h.count ≡ count_at bytes p
  pub flags : flag_word h.flags ≡ word_at bytes p
  pub discard : h.flags.discard ≡ has_bit (word_at bytes p) 4
  pub text_length : h.text_length ≡ length_at bytes p
  pub whole : 512 * (p + 1 + data_sectors bytes p) ≤ length bytes

-- the header is one for a device of that many sectors
pub record HeaderFits (sectors : ℕ) (h : Header) : Type 0 where
  pub mark : h.flags.mark ≡ true → IsMarkHeader h
  pub other : h.flags.mark ≡ false → h.text_length ≡ 0
  pub device : 0 < h.count → h.sector + h.count ≤ sectors
