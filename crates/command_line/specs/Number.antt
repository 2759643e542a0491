-- Numbers, as words of a command line say them (docs/COMMANDS.md, Numbers and lists): by decimal digits, without a sign and without a zero in
-- front of others.
use Rattle.std.specs.Prelude.{ℕ, ◌≡◌, ◌≢◌, ◌<◌, ◌^◌, List, length, get_or}
use Rattle.std.specs.Fmt.{decimal}

-- a word is that number, which that many bits hold: it has the digits that are printed of it
pub record IsNumber (bits : ℕ) (word : List ℕ) (number : ℕ) : Type 0 where
  pub small : number < 2 ^ bits
  pub digits : word ≡ decimal number

-- a word is no number that that many bits hold
abbrev pub NoNumber : ℕ → List ℕ → Type 0
NoNumber bits word = (number : ℕ) → IsNumber bits word number → ⊥

-- a word may be that of a number: it has a byte, no sign before the digits, and no zero in front of others
pub record IsPlain (word : List ℕ) : Type 0 where
  pub some : 0 < length word
  pub sign : get_or word 0 0 ≢ 43
  pub zeros : get_or word 0 0 ≡ 48 → length word ≡ 1
