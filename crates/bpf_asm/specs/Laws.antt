-- What holds of texts and listings.
use Rattle.std.specs.Prelude.{◌≡◌, ℕ, List, Option}
use Rattle.bpf_isa.specs.declared.instr.Instr.{Instr}
use Rattle.bpf_isa.specs.Program.{IsProgram}
use Rattle.bpf_asm.specs.Says.{Says}
use Rattle.bpf_asm.specs.Listing.{listing}

-- a text says one program at most
abbrev pub OneProgram : Type 0
OneProgram = (text : List ℕ) (p q : List (Option Instr)) → Says text p → Says text q → p ≡ q

-- the listing of a program says that program
abbrev pub ListingSays : Type 0
ListingSays = (p : List (Option Instr)) → IsProgram p → Says (listing p) p
