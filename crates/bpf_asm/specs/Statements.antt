-- What a line says (docs/ASSEMBLY.md, Lines and parts, Labels).
use Rattle.std.specs.Prelude.{ℕ, Bool, false, ◌==◌, ◌&&◌, if◌then◌else◌, List, [], ◌∷◌, drop, Option, None, Some, option_map}
use Rattle.std.specs.Borrow.{Bor}
use Rattle.bpf_asm.specs.declared.instruction.Draft as code
use Rattle.bpf_asm.specs.declared.statement.Statement as code_statement
use Rattle.bpf_asm.specs.declared.statement.Statement.TheVariants as says
use Rattle.bpf_asm.specs.Parts.{Part, Word, Mark, parts, is_none_left}
use Rattle.bpf_asm.specs.Words.{is_name}
use Rattle.bpf_asm.specs.Mnemonics.{mnemonic_of}
use Rattle.bpf_asm.specs.Operands.{Draft, draft, ◌>>=◌}

-- nothing, a label, or an instruction
pub data Statement : Type 0 where
  Empty : Statement
  Label : List ℕ → Statement
  Instruction : Draft → Statement

-- a colon, as after a label
abbrev pub is_colon : List Part → Bool
is_colon (Mark m ∷ _) = m == 58
is_colon _ = false

-- a name, and nothing after the colon
abbrev pub label_line : List ℕ → List Part → Option Statement
label_line name rest = if is_name name && is_none_left rest then Some (Label name) else None

-- the name of an instruction and its operands
abbrev pub instruction_line : List ℕ → List Part → Option Statement
instruction_line name rest = do
  m ← mnemonic_of name
  d ← draft m rest
  Some (Instruction d)

-- what the parts of a line say, if they say something
unfoldable pub statement : List Part → Option Statement
statement [] = Some Empty
statement (Mark m ∷ _) = None
statement (Word w ∷ rest) = if is_colon rest then label_line w (drop 1 rest) else instruction_line w rest

-- what a line says
abbrev pub statement_of : List ℕ → Option Statement
statement_of line = statement (parts line)

-- What the code holds, seen as these values.

abbrev pub name_value : Option (Bor (List ℕ)) → Option (List ℕ)
name_value name = option_map (λ n. n.now) name

abbrev pub draft_value : code.Draft → Draft
draft_value d = record { instr = d.instr; label = name_value d.label }

abbrev pub statement_value : code_statement.Statement → Statement
statement_value says.Empty = Empty
statement_value (says.Label name) = Label name.now
statement_value (says.Instruction d) = Instruction (draft_value d)
