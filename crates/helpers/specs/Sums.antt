-- The checksums that a program with guards may ask for (docs/MACHINE.md, Checksums).
use Rattle.std.specs.Prelude.{ℕ, ◌+◌, ◌/◌, ◌%◌, ◌^◌, ◌==◌, nat_lt, if◌then◌else◌, List, [], replicate, Option, None, Some, slice_get, unwrap_or}
use Rattle.std.specs.List.{range_with_len}
use Rattle.checksums.specs.declared.polynomial.Polynomial.{Polynomial}
use Rattle.checksums.specs.declared.polynomial.Polynomial.TheVariants as polynomial
use Rattle.checksums.specs.Checksum.{coefficients, checksum}
use Rattle.helpers.specs.declared.sums.Checksum.{Checksum}
use Rattle.helpers.specs.declared.sums.Checksum.TheVariants as of

-- by their numbers
abbrev pub checksum_of : ℕ → Option Checksum
checksum_of n =
    if n == 8 then Some (of.OfDevice polynomial.Castagnoli)
    else if n == 9 then Some (of.OfDevice polynomial.Iso3309)
    else if n == 10 then Some (of.OfMemory polynomial.Castagnoli)
    else if n == 11 then Some (of.OfMemory polynomial.Iso3309)
    else None

abbrev pub polynomial_of : Checksum → Polynomial
polynomial_of (of.OfDevice p) = p
polynomial_of (of.OfMemory p) = p

-- how many bytes a call takes of n
abbrev pub most_taken : ℕ
most_taken = 4096

abbrev pub taken : ℕ → ℕ
taken n = if nat_lt most_taken n then most_taken else n

-- a sector, or zeros past the device
abbrev pub sector_or_zeros : List (List ℕ) → ℕ → List ℕ
sector_or_zeros device n = unwrap_or (slice_get device n) (replicate 512 0)

-- the register after some bytes, where the low half of a word is the register before
unfoldable pub sum_answer : Polynomial → ℕ → List ℕ → ℕ
sum_answer p seed bytes = checksum (coefficients p) (seed % 2 ^ 32) bytes % 2 ^ 32

-- the sectors that have one of n bytes of the device
unfoldable pub summed_sectors : ℕ → ℕ → List ℕ
summed_sectors position n = if n == 0 then [] else range_with_len (position / 512) ((position % 512 + n + 511) / 512)
