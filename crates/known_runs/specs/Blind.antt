-- Records of a program that looked at nothing that a log writes: no crash changes what it ends in.
use Rattle.std.specs.Prelude.{ℕ, ◌+◌, ◌==◌, nat_le, nat_lt, Bool, not, ◌&&◌, List, length}
use Rattle.std.specs.List.{list_any}
use Rattle.logfmt.specs.declared.entry.Entry.{Entry}
use Rattle.known.specs.declared.run.KnownRun.{KnownRun}

-- an entry covers a sector
abbrev pub covers : ℕ → Entry → Bool
covers s e = nat_le e.sector s && nat_lt s (e.sector + e.count)

abbrev pub is_covered : List Entry → ℕ → Bool
is_covered es s = list_any (covers s) es

-- the program looked at such a sector
abbrev pub looks : List Entry → List ℕ → Bool
looks es looked = list_any (is_covered es) looked

abbrev pub sees : List Entry → KnownRun → Bool
sees es r = looks es r.looked.items

-- there are records, and in none of them it did
abbrev pub are_blind : List Entry → List KnownRun → Bool
are_blind es runs = not (length runs == 0) && not (list_any (sees es) runs)
