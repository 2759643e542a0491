-- What is held of the lines read so far.
use Rattle.std.specs.Prelude.{◌≡◌, ℕ, ◌+◌, ◌<◌, ◌≤◌, ◌⊎◌, List, [], ◌∷◌, ◌++◌, map, bytes_eq, Option, None, Some}
use Rattle.std.specs.HashMap as hash
use Rattle.bpf_isa.specs.declared.instr.Instr.{Instr}
use Rattle.bpf_asm.specs.declared.outline.Outline as code
use Rattle.bpf_asm.specs.Parts.{lines}
use Rattle.bpf_asm.specs.Operands.{Draft}
use Rattle.bpf_asm.specs.Statements.{Statement, statement_of, name_value}
use Rattle.bpf_asm.specs.Says.{AreOnce, drafts_of, label_slot, slots_in, all_placed}

-- the slots of instructions
abbrev pub slot_count : List Draft → ℕ
slot_count [] = 0
slot_count (d ∷ rest) = slots_in d + slot_count rest

-- the labels with their slots, the instructions, the labels that these name, and the slots are those of these statements
pub record Holds (label_at : List ℕ → Option ℕ) (instrs : List Instr) (wanted : List (Option (List ℕ))) (slots : ℕ) (said : List Statement) : Type 0 where
  pub labels : (name : List ℕ) → label_at name ≡ label_slot 0 said name
  pub once : AreOnce said
  pub plain : instrs ≡ map (λ d. d.instr) (drafts_of said)
  pub named : wanted ≡ map (λ d. d.label) (drafts_of said)
  pub count : slots ≡ slot_count (drafts_of said)
  pub limit : slots ≤ 4096

abbrev pub labels_in : code.Outline → List ℕ → Option ℕ
labels_in o name = hash.get_by (λ k. bytes_eq name k.now) o.labels

abbrev pub wanted_in : code.Outline → List (Option (List ℕ))
wanted_in o = map (λ w. name_value w.label) o.wanted.items

abbrev pub IsOutline : code.Outline → List Statement → Type 0
IsOutline o said = Holds (labels_in o) o.instrs.items (wanted_in o) o.slots said

-- no program begins with these statements
abbrev pub Fails : List Statement → Type 0
Fails said = (AreOnce said → ⊥) ⊎ (4096 < slot_count (drafts_of said))

-- one line more
pub record Adds (line : List ℕ) (old new : code.Outline) (said : List Statement) : Type 0 where
  pub next : Statement
  pub read : statement_of line ≡ Some next
  pub outline : IsOutline new (said ++ next ∷ [])

-- a line that no program has after these statements
pub data Breaks (line : List ℕ) (said : List Statement) : Type 0 where
  unread : statement_of line ≡ None → Breaks line said
  fails : (next : Statement) → statement_of line ≡ Some next → Fails (said ++ next ∷ []) → Breaks line said

-- the lines of a text can't be read, or no program has what they say
abbrev pub IsUnread : List ℕ → Type 0
IsUnread text = (said : List Statement) → map statement_of (lines text) ≡ map Some said → Fails said

-- all lines of a text
pub record Outlines (text : List ℕ) (o : code.Outline) : Type 0 where
  pub said : List Statement
  pub read : map statement_of (lines text) ≡ map Some said
  pub outline : IsOutline o said

-- there are statements of which it is the outline
pub record Stands (o : code.Outline) : Type 0 where
  pub said : List Statement
  pub outline : IsOutline o said

-- each label has a slot of a program, or the one after its end
abbrev pub LabelsFit : (List ℕ → Option ℕ) → Type 0
LabelsFit label_at = (name : List ℕ) (to : ℕ) → label_at name ≡ Some to → to ≤ 4096

-- the instructions are those of the outline with their distances
abbrev pub IsPlaced : code.Outline → List Instr → Type 0
IsPlaced o instrs = (said : List Statement) → IsOutline o said → all_placed (label_slot 0 said) 0 (drafts_of said) ≡ Some instrs

-- a label that is named doesn't exist
abbrev pub IsUnplaced : code.Outline → Type 0
IsUnplaced o = (said : List Statement) → IsOutline o said → all_placed (label_slot 0 said) 0 (drafts_of said) ≡ None
