-- What the kernels answer, over a sector as the list of its 512 bytes.
use Rattle.std.specs.Prelude.{◌≡◌, ℕ, zero, suc, ◌+◌, ◌-◌, ◌*◌, ◌%◌, ◌^◌, List, ◌∷◌, ◌++◌, replicate, All}
use Rattle.std.specs.Int.{from_le_bytes, w64}
use Rattle.std.specs.List.{slice_range}

-- each byte is 0
abbrev pub IsZero : List ℕ → Type 0
IsZero sector = All (λ byte. byte ≡ 0) sector

-- The mix of a sector (docs/MACHINE.md, "Mixing a sector"). Its 64 words stand in eight rows of eight.

-- word i of 64: the little-endian number in bytes 8 i to 8 i + 7
unfoldable pub word : List ℕ → ℕ → ℕ
word sector i = from_le_bytes w64 (slice_range sector (8 * i) (8 * i + 8))

-- by which the rows of a column count, and the columns
abbrev pub column_factor : ℕ
column_factor = 1000003

abbrev pub join_factor : ℕ
join_factor = 16777619

-- Column j as a polynomial at its factor: the first rows of it, row 0 the highest coefficient. Nothing is cut off.
unfoldable pub column : List ℕ → ℕ → ℕ → ℕ
column sector j zero = 0
column sector j (suc row) = column sector j row * column_factor + word sector (8 * row + j)

-- The first n numbers as a polynomial at the other factor, number 0 the highest coefficient.
unfoldable pub horner : (ℕ → ℕ) → ℕ → ℕ
horner numbers zero = 0
horner numbers (suc n) = horner numbers n * join_factor + numbers n

-- the eight columns of eight rows, joined, modulo 2 ^ 64
unfoldable pub mix : List ℕ → ℕ
mix sector = horner (λ j. column sector j 8) 8 % 2 ^ 64

-- the sector in which word i is 1, and each other word 0
unfoldable pub one_word : ℕ → List ℕ
one_word i = replicate (8 * i) 0 ++ 1 ∷ replicate (511 - 8 * i) 0
