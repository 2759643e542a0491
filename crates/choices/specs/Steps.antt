-- From one choice to the following, in the terms that the code computes with.
use Rattle.std.specs.Prelude.{ℕ, zero, suc, ◌+◌, nat_lt, if◌then◌else◌, List, [], ◌∷◌, length, Option, Some, None}
use Rattle.choices.specs.declared.pick.Pick.{Pick}

-- the first choice of i departures from part a on: parts in a row, each dropped
unfoldable pub first_picks : ℕ → ℕ → List Pick
first_picks zero a = []
first_picks (suc i) a = record { part = a; fate = 0 } ∷ first_picks i (a + 1)

-- the next choice whose first departure is after d: the next fate, or else the next part, if there is
-- one with `beyond` parts after it below e
unfoldable pub next_picks : ℕ → ℕ → Pick → ℕ → Option (List Pick)
next_picks m e d beyond =
    if nat_lt (d.fate + 1) m then Some (record { part = d.part; fate = d.fate + 1 } ∷ first_picks beyond (d.part + 1))
    else if nat_lt (d.part + 1 + beyond) e then Some (record { part = d.part + 1; fate = 0 } ∷ first_picks beyond (d.part + 1 + 1))
    else None

-- the rest goes on, or else what the first departure does
abbrev pub after_rest : Pick → Option (List Pick) → Option (List Pick) → Option (List Pick)
after_rest d (Some rest) other = Some (d ∷ rest)
after_rest d None other = other

-- the choice after another with as many departures, among the parts below e
unfoldable pub following : ℕ → ℕ → List Pick → Option (List Pick)
following m e [] = None
following m e (d ∷ ds) = after_rest d (following m e ds) (next_picks m e d (length ds))

-- the first choice of one departure more, where fewer than s are wanted and e parts are there
unfoldable pub one_more : ℕ → ℕ → ℕ → Option (List Pick)
one_more s e size = if nat_lt (size + 1) s then (if nat_lt size e then Some (first_picks (size + 1) 0) else None) else None

-- the first that is there
abbrev pub or_else : Option (List Pick) → Option (List Pick) → Option (List Pick)
or_else (Some ds) other = Some ds
or_else None other = other

-- the choice after another of fewer than s departures
unfoldable pub following_below : ℕ → ℕ → ℕ → List Pick → Option (List Pick)
following_below m s e ds = or_else (following m e ds) (one_more s e (length ds))
