-- What holds of the encoding.
use Rattle.std.specs.Prelude.{◌≡◌, ℕ, List, Option}
use Rattle.base.specs.declared.causes.CodeCause.{CodeCause}
use Rattle.bpf_isa.specs.declared.instr.Instr.{Instr}
use Rattle.bpf_isa.specs.Program.{IsSpelledBy, FirstFault, HasNoFault}

-- bytes spell one program at most
abbrev pub OneProgram : Type 0
OneProgram = (bytes : List ℕ) (p q : List (Option Instr)) → IsSpelledBy bytes p → IsSpelledBy bytes q → p ≡ q

-- bytes that spell a program have no fault
abbrev pub NoFaultInSpelled : Type 0
NoFaultInSpelled = (bytes : List ℕ) (p : List (Option Instr)) → IsSpelledBy bytes p → HasNoFault bytes

-- the first fault of bytes is one
abbrev pub OneFault : Type 0
OneFault = (bytes : List ℕ) (c d : CodeCause) (s t : ℕ) → FirstFault bytes c s → FirstFault bytes d t → (c ≡ d) × (s ≡ t)
