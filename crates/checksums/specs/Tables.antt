-- Tables of what bytes leave in a register. Row k has that of each byte with k zero bytes after it.
use Rattle.std.specs.Prelude.{ℕ, nat_eq, ◌&&◌, Bool, true, false, List, [], ◌∷◌}
use Rattle.std.specs.List.{range_with_len}
use Rattle.checksums.specs.Checksum.{after_bits}

-- each row is the one before after eight bits more
abbrev pub follows : ℕ → List ℕ → List ℕ → Bool
follows p [] [] = true
follows p (a ∷ before) (b ∷ row) = nat_eq (after_bits p 8 a) b && follows p before row
follows p before row = false

abbrev pub all_follow : ℕ → List ℕ → List (List ℕ) → Bool
all_follow p before [] = true
all_follow p before (row ∷ rows) = follows p before row && all_follow p row rows

unfoldable pub is_table : ℕ → List (List ℕ) → Bool
is_table p rows = all_follow p (range_with_len 0 256) rows
