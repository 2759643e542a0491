-- What a text says (docs/ASSEMBLY.md): the program of the instructions of its lines, each label replaced by its distance.
use Rattle.std.specs.Prelude.{◌≡◌, ℕ, ◌+◌, ℤ, pos, ◌-ℤ◌, if◌then◌else◌, List, [], ◌∷◌, length, map, slice_get, bytes_eq, Option, None, Some, option_map}
use Rattle.std.specs.Option.{option_map_or}
use Rattle.bpf_isa.specs.declared.instr.Instr.{Instr}
use Rattle.bpf_isa.specs.declared.instr.Instr.TheVariants as instr
use Rattle.bpf_isa.specs.Program.{entry, slots_of, HasCount}
use Rattle.bpf_asm.specs.declared.fault.AsmFault.{AsmFault}
use Rattle.base.specs.declared.causes.AsmCause.TheVariants as cause
use Rattle.bpf_asm.specs.Parts.{lines}
use Rattle.bpf_asm.specs.Operands.{Draft, ◌>>=◌}
use Rattle.bpf_asm.specs.Statements.{Statement, Empty, Label, Instruction, statement_of}

-- no name is a label on two lines
abbrev pub AreOnce : List Statement → Type 0
AreOnce said = (i j : ℕ) (name : List ℕ) → slice_get said i ≡ Some (Label name) → slice_get said j ≡ Some (Label name) → i ≡ j

-- how many slots an instruction takes
abbrev pub slots_in : Draft → ℕ
slots_in d = length (entry d.instr)

-- the instructions
abbrev pub drafts_of : List Statement → List Draft
drafts_of [] = []
drafts_of (Instruction d ∷ rest) = d ∷ drafts_of rest
drafts_of (_ ∷ rest) = drafts_of rest

-- the slot for which a label stands, that of the next instruction after it, where the first has this slot
abbrev pub label_slot : ℕ → List Statement → List ℕ → Option ℕ
label_slot slot [] name = None
label_slot slot (Label l ∷ rest) name = if bytes_eq name l then Some slot else label_slot slot rest name
label_slot slot (Instruction d ∷ rest) name = label_slot (slot + slots_in d) rest name
label_slot slot (Empty ∷ rest) name = label_slot slot rest name

-- the instruction with this distance
abbrev pub aim : ℤ → Instr → Instr
aim distance (instr.Jump _) = instr.Jump distance
aim distance (instr.LongJump _) = instr.LongJump distance
aim distance (instr.Branch w c dst source _) = instr.Branch w c dst source distance
aim distance (instr.CallLocal _) = instr.CallLocal distance
aim distance i = i

-- the distance from the slot after an instruction to a slot
abbrev pub away : ℕ → ℕ → ℤ
away slot to = pos to -ℤ pos (slot + 1)

-- the instruction at this slot, where the labels stand for these slots
unfoldable pub instr_at : (List ℕ → Option ℕ) → ℕ → Draft → Option Instr
instr_at label_at slot d = option_map_or (λ name. option_map (λ to. aim (away slot to) d.instr) (label_at name)) d.label (Some d.instr)

-- the instructions from this slot on
abbrev pub all_placed : (List ℕ → Option ℕ) → ℕ → List Draft → Option (List Instr)
all_placed label_at slot [] = Some []
all_placed label_at slot (d ∷ rest) = do
  first ← instr_at label_at slot d
  others ← all_placed label_at (slot + slots_in d) rest
  Some (first ∷ others)

-- the text says the program of these slots
pub record Says (text : List ℕ) (slots : List (Option Instr)) : Type 0 where
  pub said : List Statement
  pub read : map statement_of (lines text) ≡ map Some said
  pub once : AreOnce said
  pub instrs : List Instr
  pub placed : all_placed (label_slot 0 said) 0 (drafts_of said) ≡ Some instrs
  pub listed : slots ≡ slots_of instrs
  pub count : HasCount slots

-- the text says no program
abbrev pub SaysNone : List ℕ → Type 0
SaysNone text = (slots : List (Option Instr)) → Says text slots → ⊥

-- the text says no instruction
pub record SaysNothing (text : List ℕ) : Type 0 where
  pub said : List Statement
  pub read : map statement_of (lines text) ≡ map Some said
  pub once : AreOnce said
  pub none : drafts_of said ≡ []

-- the fault of want of memory
abbrev pub memory_fault : AsmFault
memory_fault = record { code = cause.Memory; line = 0 }

-- the fault of a text without instructions
abbrev pub empty_fault : AsmFault
empty_fault = record { code = cause.Range; line = 0 }
