-- Little-endian numbers in bytes (docs/LOG-FORMAT.md and docs/MACHINE.md say where each stands).
use Rattle.std.specs.Prelude.{ℕ, List, drop, replicate}
use Rattle.byteorder.specs.Endian.{little_number, little_bytes}

-- the number in the n bytes from place i, the lowest byte first
unfoldable pub number_at : ℕ → ℕ → List ℕ → ℕ
number_at n i bytes = little_number n (drop i bytes)

-- the n bytes of the number x, the lowest first
unfoldable pub number_bytes : ℕ → ℕ → List ℕ
number_bytes n x = little_bytes n x

-- n zeros
unfoldable pub zeros : ℕ → List ℕ
zeros n = replicate n 0
