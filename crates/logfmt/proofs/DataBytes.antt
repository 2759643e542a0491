-- Parts of bytes are bytes.
use Rattle.std.proofs.Common.{ℕ, zero, suc, ◌+◌, ◌-◌, ◌<◌, List, [], ◌∷◌, take, drop, replicate, arith}
use Rattle.std.specs.List.{slice_index, slice_range}
use Rattle.std.proofs.lemmas.List.{get_or-drop}
use Rattle.base.specs.Numbers.{zeros}
use Rattle.logfmt.specs.Bounds.{AreBytes}

-- the first of bytes
pub first_bytes : (n : ℕ) (bytes : List ℕ) (i : ℕ) → AreBytes bytes → slice_index (take n bytes) i < 256
first_bytes zero bytes i h = omega arith
first_bytes (suc n) [] i h = omega arith
first_bytes (suc n) (b ∷ bytes) zero h = h 0
first_bytes (suc n) (b ∷ bytes) (suc i) h = first_bytes n bytes i (λ j. h (suc j))

-- a range of bytes
pub range_bytes : (bytes : List ℕ) (start end : ℕ) → AreBytes bytes → AreBytes (slice_range bytes start end)
range_bytes bytes start end h i =
    first_bytes (end - start) (drop start bytes) i (λ j. rw (get_or-drop start bytes j 0) (h (start + j)))

zero_byte : (n i : ℕ) → slice_index (replicate {A = ℕ} n 0) i < 256
zero_byte zero i = omega arith
zero_byte (suc n) zero = omega arith
zero_byte (suc n) (suc i) = zero_byte n i

-- zeros
pub zero_bytes : (n : ℕ) → AreBytes (zeros n)
unfolding zeros
zero_bytes n i = zero_byte n i
