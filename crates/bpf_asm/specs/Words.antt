-- What a word stands for: a number, a register, the name of a label (docs/ASSEMBLY.md, Operands and Labels).
use Rattle.std.specs.Prelude.{ℕ, ℤ, pos, neg_ℤ, ◌+◌, ◌-◌, ◌*◌, ◌^◌, Bool, ◌==◌, ◌&&◌, nat_lt, nat_le, if◌then◌else◌, List, [], ◌∷◌, drop, length, slice_index, bytes_eq, codes, Option, Some, None}
use Rattle.std.specs.Int.{is_in_range}
use Rattle.std.specs.Option.{option_and_then}
use Rattle.std.specs.Char.{is_ascii_alphabetic}
use Rattle.bpf_asm.specs.declared.number.Number.{Number}

-- the value of a digit, in both cases; 16 for a character that is none
unfoldable pub digit : ℕ → ℕ
digit c =
    if is_in_range 48 57 c then c - 48
    else if is_in_range 97 102 c then c - 87
    else if is_in_range 65 70 c then c - 55
    else 16

-- the number that the digits make after those that make n
unfoldable pub numeral_from : ℕ → ℕ → List ℕ → Option ℕ
numeral_from base n [] = Some n
numeral_from base n (c ∷ rest) = if nat_lt (digit c) base then numeral_from base (base * n + digit c) rest else None

-- one digit or more
abbrev pub numeral : ℕ → List ℕ → Option ℕ
numeral base [] = None
numeral base (c ∷ rest) = numeral_from base 0 (c ∷ rest)

-- the word begins with `0x`
abbrev pub is_hexadecimal : List ℕ → Bool
is_hexadecimal word = nat_le 2 (length word) && (slice_index word 0 == 48) && (slice_index word 1 == 120)

-- the number that a word is, decimal or hexadecimal
unfoldable pub number_of : List ℕ → Option ℕ
number_of word = if is_hexadecimal word then numeral 16 (drop 2 word) else numeral 10 word

-- a magnitude of 64 bits; what is above is in no range
abbrev pub in_64_bits : ℕ → Option ℕ
in_64_bits n = if nat_lt n (2 ^ 64) then Some n else None

-- a number after its sign
abbrev pub number_with_sign : Bool → ℕ → Number
number_with_sign negative n = record { negative = negative; magnitude = in_64_bits n }

-- `r` and one digit
abbrev pub is_short_register : List ℕ → Bool
is_short_register word = (length word == 2) && (slice_index word 0 == 114) && is_in_range 48 57 (slice_index word 1)

-- the register that a word names: `r0` to `r10`
unfoldable pub register_of : List ℕ → Option ℕ
register_of word =
    if is_short_register word then Some (slice_index word 1 - 48)
    else if bytes_eq word (codes "r10") then Some 10
    else None

-- a name begins with a letter
unfoldable pub is_name : List ℕ → Bool
is_name word = is_ascii_alphabetic (slice_index word 0)

-- a number from minus the bound to less than the bound
abbrev pub in_range : ℕ → Number → Option ℤ
in_range bound n = option_and_then (λ m. if n.negative then (if nat_le m bound then Some (neg_ℤ (pos m)) else None) else (if nat_lt m bound then Some (pos m) else None)) n.magnitude

-- a number from 0 to 2^64 - 1, which takes no minus
abbrev pub in_wide_range : Number → Option ℕ
in_wide_range n = if n.negative then None else n.magnitude
