-- How many choices there are, in the terms that the code computes with.
use Rattle.std.specs.Prelude.{ℕ, zero, suc, ◌+◌, ◌*◌}

-- how many choices of i departures among k parts there are, with m fates
unfoldable pub ways : ℕ → ℕ → ℕ → ℕ
ways m zero k = 1
ways m (suc i) zero = 0
ways m (suc i) (suc k) = m * ways m i k + ways m (suc i) k

-- of fewer than s departures
unfoldable pub ways_below : ℕ → ℕ → ℕ → ℕ
ways_below m zero v = 0
ways_below m (suc s) v = ways_below m s v + ways m s v

-- of at most `bound` departures
abbrev pub ways_within : ℕ → ℕ → ℕ → ℕ
ways_within m bound v = ways_below m (suc bound) v

-- how many pairs and how many triples k parts have
unfoldable pub pairs : ℕ → ℕ
pairs zero = 0
pairs (suc k) = k + pairs k

unfoldable pub triples : ℕ → ℕ
triples zero = 0
triples (suc k) = pairs k + triples k
