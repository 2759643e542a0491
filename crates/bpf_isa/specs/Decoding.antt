-- What the decoding of a slot answers.
use Rattle.std.specs.Prelude.{◌≡◌, List, [], ◌∷◌, Option, None, Some, Result, Ok, Err}
use Rattle.base.specs.declared.causes.CodeCause.{CodeCause}
use Rattle.base.specs.declared.causes.CodeCause.TheVariants as cause
use Rattle.bpf_isa.specs.declared.program.CodeFault.{CodeFault}
use Rattle.bpf_isa.specs.declared.fields.Fields.{Fields}
use Rattle.bpf_isa.specs.declared.instr.Instr.{Instr}
use Rattle.bpf_isa.specs.Spelling.{fields_of, second_of, IsInRange}

-- the fault of want of memory
abbrev pub memory_fault : CodeFault
memory_fault = record { code = cause.Memory; slot = 0 }

-- the fault of the number of slots
abbrev pub count_fault : CodeFault
count_fault = record { code = cause.SlotCount; slot = 0 }

abbrev pub refusal : Result Instr CodeCause → Option CodeCause
refusal (Ok i) = None
refusal (Err c) = Some c

abbrev pub Follows : List Fields → Option Fields → Type 0
Follows [] next = Unit {0}
Follows (s ∷ _) next = next ≡ Some s

-- these fields, and those of the slot after, spell the instruction
pub record IsSpelled (s : Fields) (next : Option Fields) (i : Instr) : Type 0 where
  pub first : fields_of i ≡ s
  pub second : Follows (second_of i) next
  pub range : IsInRange i
