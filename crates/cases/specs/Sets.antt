-- Sets of small numbers in the bits of a word: of what may become of a part, and of the pieces of a sector.
use Rattle.std.specs.Prelude.{ℕ, zero, suc, ◌≡◌, ◌<◌, ◌≤◌, ◌==◌, Bool, false, not, ◌&&◌, List, map, filter, Option, None, Some}
use Rattle.std.specs.List.{range_with_len}
use Rattle.std.specs.Int.{bit_at}
use Rattle.choices.specs.declared.fate.Fate.{Fate}
use Rattle.choices.specs.Choices.{fate_of}

-- number i is in a set
abbrev pub has : ℕ → ℕ → Bool
has bits i = bit_at bits i == 1

-- the numbers below n that are in a set, rising
unfoldable pub numbers_in : ℕ → ℕ → List ℕ
numbers_in n bits = filter (has bits) (range_with_len 0 n)

-- what may become of a part, by number: whole, the drop, the heads, rising, and the tails, rising
abbrev pub fate_at : ℕ → Option Fate
fate_at zero = None
fate_at (suc n) = Some (fate_of n)

-- what the sixteen numbers of a set say
unfoldable pub fates_in : ℕ → List (Option Fate)
fates_in bits = map fate_at (numbers_in 16 bits)

-- the pieces of a sector that are in a set
unfoldable pub pieces_in : ℕ → List ℕ
pieces_in bits = numbers_in 8 bits

-- all fates of a set are torn, or lost: it has neither whole nor the drop, or it doesn't have whole
abbrev pub all_torn : ℕ → Bool
all_torn bits = not (has bits 0) && not (has bits 1)

abbrev pub all_lost : ℕ → Bool
all_lost bits = not (has bits 0)

-- below n a set has the numbers that a test names, and no other number
pub record IsSetOf (test : ℕ → Bool) (n bits : ℕ) : Type 0 where
  pub below : (i : ℕ) → i < n → has bits i ≡ test i
  pub above : (i : ℕ) → n ≤ i → has bits i ≡ false
