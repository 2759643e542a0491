-- What holds of checksums.
use Rattle.std.specs.Prelude.{◌≡◌, ◌<◌, ℕ, ◌*◌, bit_xor, List, length}
use Rattle.std.specs.List.{AllByRecursion}
use Rattle.checksums.specs.Checksum.{after_bits, checksum, as_number}

-- that of some bytes is that of one number, of all their bits
abbrev pub IsOfOneNumber : Type 0
IsOfOneNumber = (p r : ℕ) (bytes : List ℕ) → AllByRecursion (λ b. b < 256) bytes
    → checksum p r bytes ≡ after_bits p (8 * length bytes) (bit_xor r (as_number bytes))

-- the checksum as most formats keep it: of a register of ones, and inverted
abbrev pub inverted : ℕ → List ℕ → ℕ
inverted p bytes = bit_xor (checksum p 0xFFFFFFFF bytes) 0xFFFFFFFF
