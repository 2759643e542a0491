-- What holds of shapes: a program has at most one, or one first broken rule, and never both.
use Rattle.std.specs.Prelude.{ℕ, ◌+◌, ◌≡◌, ◌⊎◌, ◌↔◌, ◌<◌, ◌≤◌, Bool, true, false, List, length, get_or, Option, Some}
use Rattle.bpf_isa.specs.declared.instr.Instr.{Instr}
use Rattle.bpf_isa.specs.declared.instr.Condition.TheVariants as cond
use Rattle.base.specs.declared.causes.VerifierCause.{VerifierCause}
use Rattle.bpf_shape.specs.Edges.{begins, control}
use Rattle.bpf_shape.specs.Again.{calls_again, limit_before, answer_test, again_edge, plain, is_target, is_head, heads}
use Rattle.bpf_shape.specs.Calls.{callee}
use Rattle.bpf_shape.specs.Paths.{Leads}
use Rattle.bpf_shape.specs.Chains.{IsRecursive, IsFourth}
use Rattle.bpf_shape.specs.Weights.{IsLongest, AreWeights}
use Rattle.bpf_shape.specs.Budget.{most_calls}
use Rattle.bpf_shape.specs.Rules.{FirstBroken, IsShaped}
use Rattle.bpf_shape.specs.Shape.{ShapeValue, IsShapeOf}

abbrev pub OneShape : Type 0
OneShape = (guards : Bool) (program : List (Option Instr)) (a b : ShapeValue) → IsShapeOf guards program a → IsShapeOf guards program b → (a.budget ≡ b.budget) × (a.heads ≡ b.heads)

abbrev pub OneFault : Type 0
OneFault = (guards : Bool) (program : List (Option Instr)) (c d : VerifierCause) (s t : ℕ) → FirstBroken guards program c s → FirstBroken guards program d t → (c ≡ d) × (s ≡ t)

abbrev pub NoFaultInShaped : Type 0
NoFaultInShaped = (guards : Bool) (program : List (Option Instr)) → IsShaped guards program → (c : VerifierCause) (s : ℕ) → FirstBroken guards program c s → ⊥

-- a program that has right shape without guards has it with guards
abbrev pub ShapedWithGuards : Type 0
ShapedWithGuards = (guards : Bool) (program : List (Option Instr)) → IsShaped guards program → IsShaped true program

-- a control edge is the again edge or a plain one, and each of these is a control edge
abbrev pub EdgesAreSplit : Type 0
EdgesAreSplit = (program : List (Option Instr)) (s t : ℕ) → Leads (control program s) t ↔ ((again_edge program s ≡ Some t) ⊎ Leads (plain program s) t)

-- a head is a slot to which an again edge leads
abbrev pub HeadsAreTargets : Type 0
HeadsAreTargets = (program : List (Option Instr)) (t : ℕ) → (is_head program t ≡ true) ↔ ((s : ℕ) × (again_edge program s ≡ Some t))

-- the marks of a shape, slot by slot
abbrev pub HeadsBySlot : Type 0
HeadsBySlot = (program : List (Option Instr)) (t : ℕ) → t < length program → get_or (heads program) t false ≡ is_head program t

-- in a program of right shape each control edge leads to a slot in which an instruction begins
abbrev pub EdgesLeadToInstructions : Type 0
EdgesLeadToInstructions = (guards : Bool) (program : List (Option Instr)) (s t : ℕ) → IsShaped guards program → Leads (control program s) t → begins program t ≡ true

-- and so does each local call
abbrev pub EntriesAreInstructions : Type 0
EntriesAreInstructions = (guards : Bool) (program : List (Option Instr)) (s t : ℕ) → IsShaped guards program → callee program s ≡ Some t → begins program t ≡ true

-- in a program of right shape no local call is within itself, and none is the last of four from slot 0
pub record CallsAreNested : Type 0 where
  pub recursive : (guards : Bool) (program : List (Option Instr)) (s : ℕ) → IsShaped guards program → IsRecursive program s → ⊥
  pub fourth : (guards : Bool) (program : List (Option Instr)) (s : ℕ) → IsShaped guards program → IsFourth program s → ⊥

-- In a program of right shape slot 0 has the same longest path where calls are followed deeper than
-- three: so none is left out.
abbrev pub DeeperIsTheSame : Type 0
DeeperIsTheSame = (guards : Bool) (program : List (Option Instr)) (depth a b : ℕ) (v w : ℕ → ℕ) → IsShaped guards program → most_calls ≤ depth
    → AreWeights program most_calls v → AreWeights program depth w → IsLongest program v 0 a → IsLongest program w 0 b → a ≡ b

-- what stands around a call of `again`: K before it, a comparison for equal or not equal after it, and
-- no jump or local call leads to the call or to the comparison
pub record IsAround (program : List (Option Instr)) (s : ℕ) : Type 0 where
  pub limit : ℕ
  pub limit_is : limit_before program s ≡ Some limit
  pub test : (answer_test program (s + 1) ≡ Some cond.Eq) ⊎ (answer_test program (s + 1) ≡ Some cond.Ne)
  pub call_free : is_target program s ≡ false
  pub test_free : is_target program (s + 1) ≡ false

-- and so it is in a program of right shape
abbrev pub AgainHasForm : Type 0
AgainHasForm = (guards : Bool) (program : List (Option Instr)) (s : ℕ) → IsShaped guards program → calls_again program s ≡ true → IsAround program s
