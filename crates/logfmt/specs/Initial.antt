-- What a device held before entry 0 of a log (docs/CRASH-MODEL.md, Terms): its first bytes, and zeros after them.
use Rattle.std.specs.Prelude.{ℕ, ◌+◌, ◌*◌, ◌≡◌, ◌<◌, List, map, length}
use Rattle.std.specs.List.{slice_index, range_with_len}
use Rattle.logfmt.specs.Bounds.{LogValue, AreBytes}

-- byte i of sector s
abbrev pub initial_byte : List ℕ → ℕ → ℕ → ℕ
initial_byte initial s i = slice_index initial (512 * s + i)

-- sector s
unfoldable pub initial_sector : List ℕ → ℕ → List ℕ
initial_sector initial s = map (initial_byte initial s) (range_with_len 0 512)

-- the log with that initial content
abbrev pub over : List ℕ → LogValue → LogValue
over initial log = record { sectors = log.sectors; entries = log.entries; initial = initial }

-- some bytes, and the sector that the last of them begin but don't fill, where there is one
pub record AreKept (initial : List ℕ) (begun : List ℕ) : Type 0 where
  pub bytes : AreBytes initial
  pub sector : (s : ℕ) → 512 * s < length initial → length initial < 512 * (s + 1) → begun ≡ initial_sector initial s
