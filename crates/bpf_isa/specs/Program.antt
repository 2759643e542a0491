-- Programs by their slots, and the bytes that spell them (RFC 9669, section 3; docs/MACHINE.md, Encoding).
use Rattle.std.specs.Prelude.{◌≡◌, ◌≢◌, ℕ, ◌+◌, ◌*◌, ◌/◌, ◌%◌, ◌<◌, ◌≤◌, ◌⊎◌, List, [], ◌∷◌, ◌++◌, length, take, map, flat_map, Option, None, Some}
use Rattle.base.specs.Check.{Check, first_failing}
use Rattle.base.specs.declared.causes.CodeCause.{CodeCause}
use Rattle.base.specs.declared.causes.CodeCause.TheVariants as cause
use Rattle.bpf_isa.specs.declared.instr.Instr.{Instr}
use Rattle.bpf_isa.specs.Table.{form_of}
use Rattle.bpf_isa.specs.Fields.{field_bytes, fields_at, slot_at}
use Rattle.bpf_isa.specs.Spelling.{fields_of, second_of, IsInRange}
use Rattle.bpf_isa.specs.Faults.{slot_checks}

-- second halves, in which no instruction begins
abbrev pub halves : Instr → List (Option Instr)
halves i = map (λ _. None) (second_of i)

-- the slots of an instruction: itself, and its second half
abbrev pub entry : Instr → List (Option Instr)
entry i = Some i ∷ halves i

-- the slots of instructions one after the other
abbrev pub slots_of : List Instr → List (Option Instr)
slots_of instrs = flat_map entry instrs

-- the bytes of an instruction
abbrev pub spelling : Instr → List ℕ
spelling i = field_bytes (fields_of i) ++ flat_map field_bytes (second_of i)

-- the bytes that a slot brings; those of a second half come with its instruction
abbrev pub slot_bytes : Option Instr → List ℕ
slot_bytes None = []
slot_bytes (Some i) = spelling i

abbrev pub AllInRange : List Instr → Type 0
AllInRange [] = Unit {0}
AllInRange (i ∷ rest) = IsInRange i × AllInRange rest

-- slots of whole instructions, with their operands in range
pub record AreSlots (slots : List (Option Instr)) : Type 0 where
  pub instrs : List Instr
  pub listed : slots ≡ slots_of instrs
  pub ranges : AllInRange instrs

-- 1 to 4,096 slots
pub record HasCount (slots : List (Option Instr)) : Type 0 where
  pub some : 0 < length slots
  pub limit : length slots ≤ 4096

-- a program
pub record IsProgram (slots : List (Option Instr)) : Type 0 where
  pub whole : AreSlots slots
  pub count : HasCount slots

-- the bytes spell the program of these slots
pub record IsSpelledBy (bytes : List ℕ) (slots : List (Option Instr)) : Type 0 where
  pub program : IsProgram slots
  pub spelled : bytes ≡ flat_map slot_bytes slots

-- the bytes begin with the spelling of these slots
pub record Begins (bytes : List ℕ) (slots : List (Option Instr)) : Type 0 where
  pub whole : AreSlots slots
  pub within : 8 * length slots ≤ length bytes
  pub spelled : take (8 * length slots) bytes ≡ flat_map slot_bytes slots

-- the tests of the slot at this place
abbrev pub checks_at : List ℕ → ℕ → List (Check CodeCause)
checks_at bytes slot = slot_checks (form_of (fields_at bytes slot).opcode) (fields_at bytes slot) (slot_at bytes (slot + 1))

-- the bytes are of 1 to 4,096 whole slots
pub record IsWhole (bytes : List ℕ) : Type 0 where
  pub slots : length bytes % 8 ≡ 0
  pub some : 0 < length bytes
  pub limit : length bytes ≤ 8 * 4096

-- the first fault of bytes, and the slot that it names: the slot that is cut; slot 0 for their
-- number; else the first slot of an instruction, after those that are spelled, at which a test fails
pub data FirstFault (bytes : List ℕ) : CodeCause → ℕ → Type 0 where
  cut : length bytes % 8 ≢ 0 → FirstFault bytes cause.Length (length bytes / 8)
  count : length bytes % 8 ≡ 0 → (length bytes ≡ 0) ⊎ (8 * 4096 < length bytes) → FirstFault bytes cause.SlotCount 0
  at_slot : (c : CodeCause) (before : List (Option Instr)) → IsWhole bytes → Begins bytes before → length before < length bytes / 8
      → first_failing (checks_at bytes (length before)) ≡ Some c → FirstFault bytes c (length before)

-- no fault at all
abbrev pub HasNoFault : List ℕ → Type 0
HasNoFault bytes = (c : CodeCause) (slot : ℕ) → FirstFault bytes c slot → ⊥
