-- Checksums of 32 bits by a polynomial, bit by bit: CRC32C (RFC 3720, section 12.1) and CRC-32 (ISO 3309; docs/MACHINE.md,
-- Checksums). A register is a polynomial below the 32nd power over bits: its lowest bit is the coefficient of the highest power.
-- Nothing is inverted.
use Rattle.std.specs.Prelude.{ℕ, zero, suc, ◌+◌, ◌*◌, ◌/◌, ◌%◌, ◌==◌, bit_xor, if◌then◌else◌, List, [], ◌∷◌}
use Rattle.checksums.specs.declared.polynomial.Polynomial.{Polynomial}
use Rattle.checksums.specs.declared.polynomial.Polynomial.TheVariants as polynomial

-- the coefficients below the 32nd power: 0x1EDC6F41 and 0x04C11DB7, with the bits in the register's order
abbrev pub coefficients : Polynomial → ℕ
coefficients polynomial.Castagnoli = 0x82F63B78
coefficients polynomial.Iso3309 = 0xEDB88320

-- the next power of a register, less the polynomial where it has the 32nd power
abbrev pub shifted : ℕ → ℕ → ℕ
shifted p r = if r % 2 == 0 then r / 2 else bit_xor (r / 2) p

-- the register after k zero bits
unfoldable pub after_bits : ℕ → ℕ → ℕ → ℕ
after_bits p zero r = r
after_bits p (suc k) r = after_bits p k (shifted p r)

-- the register after a byte, and after some, its lowest bit first
unfoldable pub after_byte : ℕ → ℕ → ℕ → ℕ
after_byte p r b = after_bits p 8 (bit_xor r b)

unfoldable pub checksum : ℕ → ℕ → List ℕ → ℕ
checksum p r [] = r
checksum p r (b ∷ bytes) = checksum p (after_byte p r b) bytes

-- bytes as one number, the lowest first
abbrev pub as_number : List ℕ → ℕ
as_number [] = 0
as_number (b ∷ bytes) = b + 256 * as_number bytes
