-- The shape rules (docs/VERIFIER.md, Shape rules).
use Rattle.std.specs.Prelude.{ℕ, ◌+◌, ◌≡◌, ◌<◌, ◌⊎◌, ◌==◌, nat_le, not, ◌&&◌, Bool, true, false, if◌then◌else◌, List, [], ◌∷◌, Option, None, Some, is_some}
use Rattle.std.specs.Option.{option_map_or, option_and_then}
use Rattle.bpf_isa.specs.declared.instr.Instr.{Instr}
use Rattle.bpf_isa.specs.declared.instr.Instr.TheVariants as instr
use Rattle.bpf_isa.specs.declared.instr.Condition.{Condition}
use Rattle.bpf_isa.specs.declared.instr.Condition.TheVariants as cond
use Rattle.base.specs.declared.causes.VerifierCause.{VerifierCause}
use Rattle.base.specs.declared.causes.VerifierCause.TheVariants as cause
use Rattle.bpf_isa.specs.Slots.{at}
use Rattle.bpf_shape.specs.Edges.{begins, control}
use Rattle.bpf_shape.specs.Again.{helper_number, calls_again, limit_before, answer_test, is_target, plain}
use Rattle.bpf_shape.specs.Calls.{callee}
use Rattle.bpf_shape.specs.Paths.{OnCycle}
use Rattle.bpf_shape.specs.Chains.{IsRecursive, IsFourth}
use Rattle.bpf_shape.specs.Budget.{IsBudget, most_steps}

-- the register that arithmetic, a load or a 64-bit immediate writes
abbrev pub written_register : Instr → Option ℕ
written_register (instr.Arithmetic w o dst from) = Some dst
written_register (instr.Negate w dst) = Some dst
written_register (instr.SignExtend e dst src) = Some dst
written_register (instr.ByteOrder o size dst) = Some dst
written_register (instr.Load size dst base offset) = Some dst
written_register (instr.LoadSigned size dst base offset) = Some dst
written_register (instr.LoadImmediate dst value) = Some dst
written_register (instr.Jump distance) = None
written_register (instr.LongJump distance) = None
written_register (instr.Branch w c dst from distance) = None
written_register (instr.CallHelper number) = None
written_register (instr.CallLocal distance) = None
written_register instr.Exit = None
written_register (instr.StoreImmediate size base offset immediate) = None
written_register (instr.Store size base offset src) = None

-- the answer of `again` is compared for equal or not equal
abbrev pub is_equality : Option Condition → Bool
is_equality (Some cond.Eq) = true
is_equality (Some cond.Ne) = true
is_equality _ = false

-- a call of `again` at a slot has the form: K is set before it, its answer is compared after it, and
-- no jump or local call leads to the call or to the comparison
unfoldable pub has_form : List (Option Instr) → ℕ → Bool
has_form program slot =
    is_some (limit_before program slot)
    && (is_equality (answer_test program (slot + 1))
    && (not (is_target program slot) && not (is_target program (slot + 1))))

-- the greatest number of a helper: 8 to 11 are those of programs with guards
abbrev pub last_helper : Bool → ℕ
last_helper guards = if guards then 11 else 7

-- The rules that look at one slot, and whether it keeps them: the target of a jump or of a local call
-- and the next slot are where an instruction begins, r10 isn't written, a helper is one of those that there are, a call
-- of `again` has the form.
unfoldable pub keeps : Bool → List (Option Instr) → VerifierCause → ℕ → Bool
keeps guards program cause.Target slot =
    option_map_or (begins program) (control program slot).target true && option_map_or (begins program) (callee program slot) true
keeps guards program cause.End slot = option_map_or (begins program) (control program slot).next true
keeps guards program cause.FramePointer slot = option_map_or (λ r. not (r == 10)) (option_and_then written_register (at program slot)) true
keeps guards program cause.UnknownHelper slot = option_map_or (λ n. nat_le 1 n && nat_le n (last_helper guards)) (option_and_then helper_number (at program slot)) true
keeps guards program cause.AgainForm slot = if calls_again program slot then has_form program slot else true
keeps guards program _ slot = true

-- the budget is above what is accepted
pub record IsOver (program : List (Option Instr)) : Type 0 where
  pub budget : ℕ
  pub is : IsBudget program budget
  pub over : most_steps < budget

-- the slot breaks the rule of that cause: it lies on a cycle without again edges; it is a local call that
-- is within itself, or the last of four in a chain from slot 0; for the budget it is slot 0; or it doesn't
-- keep a rule of one slot
unfoldable pub Breaks : Bool → List (Option Instr) → VerifierCause → ℕ → Type 0
Breaks guards program cause.Loop slot = OnCycle (plain program) slot
Breaks guards program cause.CallDepth slot = IsRecursive program slot ⊎ IsFourth program slot
Breaks guards program cause.Budget slot = (slot ≡ 0) × IsOver program
Breaks guards program c slot = keeps guards program c slot ≡ false

-- no slot breaks it
abbrev pub Holds : Bool → List (Option Instr) → VerifierCause → Type 0
Holds guards program c = (slot : ℕ) → Breaks guards program c slot → ⊥

-- the lowest slot that breaks it
pub record IsLowest (guards : Bool) (program : List (Option Instr)) (c : VerifierCause) (slot : ℕ) : Type 0 where
  pub breaks : Breaks guards program c slot
  pub lowest : (t : ℕ) → t < slot → Breaks guards program c t → ⊥

-- the rules in the order in which they are tested
abbrev pub order : List VerifierCause
order = cause.Target ∷ cause.End ∷ cause.FramePointer ∷ cause.UnknownHelper ∷ cause.AgainForm ∷ cause.Loop ∷ cause.CallDepth ∷ cause.Budget ∷ []

-- of these rules the first that is broken, at its lowest slot
abbrev pub FirstOf : Bool → List (Option Instr) → List VerifierCause → VerifierCause → ℕ → Type 0
FirstOf guards program [] c slot = ⊥
FirstOf guards program (rule ∷ rest) c slot = ((c ≡ rule) × IsLowest guards program rule slot) ⊎ (Holds guards program rule × FirstOf guards program rest c slot)

-- the first broken rule of a program, with guards or without
unfoldable pub FirstBroken : Bool → List (Option Instr) → VerifierCause → ℕ → Type 0
FirstBroken guards program c slot = FirstOf guards program order c slot

-- each rule holds
pub record IsShaped (guards : Bool) (program : List (Option Instr)) : Type 0 where
  pub targets : Holds guards program cause.Target
  pub ends : Holds guards program cause.End
  pub frame_pointer : Holds guards program cause.FramePointer
  pub helpers : Holds guards program cause.UnknownHelper
  pub again : Holds guards program cause.AgainForm
  pub loops : Holds guards program cause.Loop
  pub calls : Holds guards program cause.CallDepth
  pub budget : Holds guards program cause.Budget
