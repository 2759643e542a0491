-- Rows of 16 bytes of a device, as `xxd` prints them (docs/OUTPUT.md, The text of `show`).
use Rattle.std.specs.Prelude.{ℕ, ◌+◌, ◌*◌, ◌/◌, ◌%◌, ◌==◌, ◌&&◌, nat_lt, nat_le, if◌then◌else◌, List, [], ◌∷◌, ◌++◌, codes, slice_index}
use Rattle.std.specs.List.{flat_map, range_with_len}

-- 0 to 9 and a to f
abbrev pub hex_digit : ℕ → ℕ
hex_digit n = if nat_lt n 10 then 48 + n else 87 + n

abbrev pub hex_byte : ℕ → List ℕ
hex_byte b = hex_digit (b / 16) ∷ hex_digit (b % 16) ∷ []

-- the digit before the last eight, where it is no zero
abbrev pub high_text : ℕ → List ℕ
high_text n = if n == 0 then [] else hex_digit n ∷ []

-- the number of a byte of the device, in eight digits, or in nine where it needs them
unfoldable pub address_text : ℕ → List ℕ
address_text a = high_text (a / 4294967296) ++ hex_byte (a / 16777216 % 256) ++ hex_byte (a / 65536 % 256) ++ hex_byte (a / 256 % 256) ++ hex_byte (a % 256)

-- two bytes of a sector
unfoldable pub pair_text : List ℕ → ℕ → List ℕ
pair_text bytes i = codes " " ++ hex_byte (slice_index bytes i) ++ hex_byte (slice_index bytes (i + 1))

-- a printable ASCII character stands for itself, a point for any other byte
abbrev pub character_of : ℕ → List ℕ
character_of b = (if nat_le 32 b && nat_le b 126 then b else 46) ∷ []

-- the bytes of row r of a sector, in pairs, and as characters
unfoldable pub pairs_text : List ℕ → ℕ → List ℕ
pairs_text bytes r = flat_map (λ (j : ℕ). pair_text bytes (16 * r + 2 * j)) (range_with_len 0 8)

unfoldable pub characters_text : List ℕ → ℕ → List ℕ
characters_text bytes r = flat_map (λ (j : ℕ). character_of (slice_index bytes (16 * r + j))) (range_with_len 0 16)

-- row r of sector n
unfoldable pub row_text : ℕ → List ℕ → ℕ → List ℕ
row_text n bytes r = address_text (512 * n + 16 * r) ++ codes ":" ++ pairs_text bytes r ++ codes "  " ++ characters_text bytes r ++ codes "\n"
