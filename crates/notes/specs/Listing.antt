-- Instructions with the numbers of their slots (docs/OUTPUT.md, The other texts; docs/REFUSALS.md, Notes).
use Rattle.std.specs.Prelude.{ℕ, List, [], ◌++◌, length, codes, Option, None, Some}
use Rattle.std.specs.List.{flat_map, range_with_len}
use Rattle.std.specs.Fmt.{decimal}
use Rattle.bpf_isa.specs.declared.instr.Instr.{Instr}
use Rattle.bpf_isa.specs.Slots.{at}
use Rattle.bpf_asm.specs.Listing.{line_text}

-- the line of the listing, after the number of the slot
abbrev pub numbered_line : ℕ → Instr → List ℕ
numbered_line slot i = decimal slot ++ codes ": " ++ line_text i ++ codes "\n"

-- of the slots in which an instruction begins
abbrev pub numbered_slot : ℕ → Option Instr → List ℕ
numbered_slot slot None = []
numbered_slot slot (Some i) = numbered_line slot i

abbrev pub numbered_listing : List (Option Instr) → List ℕ
numbered_listing slots = flat_map (λ slot. numbered_slot slot (at slots slot)) (range_with_len 0 (length slots))
