-- The instructions of an accepted program that no path reaches (docs/VERIFIER.md, Good table).
use Rattle.std.specs.Prelude.{ℕ, ◌+◌, Bool, ◌&&◌, List, [], ◌∷◌, length, filter, is_none, Option, None, Some}
use Rattle.std.specs.Option.{is_some}
use Rattle.std.specs.List.{range_with_len}
use Rattle.bpf_isa.specs.Slots.{at}
use Rattle.verifier.specs.Tables.{state_at}
use Rattle.verifier.specs.Verdicts.{VerifiedValue}

-- an instruction begins at the slot, and the table knows no state there
abbrev pub is_unreached : VerifiedValue → ℕ → Bool
is_unreached v slot = is_some (at v.program slot) && is_none (state_at v.table slot)

abbrev pub unreached_slots : VerifiedValue → List ℕ
unreached_slots v = filter (is_unreached v) (range_with_len 0 (length v.program))

-- of some slots how many there are, and the first
abbrev pub count_and_first : List ℕ → Option (ℕ × ℕ)
count_and_first [] = None
count_and_first (first ∷ rest) = Some (length (first ∷ rest), first)

-- the same with one more slot after them
abbrev pub and_slot : Option (ℕ × ℕ) → ℕ → Option (ℕ × ℕ)
and_slot None slot = Some (1, slot)
and_slot (Some found) slot = Some (found.0 + 1, found.1)
