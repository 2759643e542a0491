-- How the rules that look at one slot are tested. Only this crate's own contracts cite it.
use Rattle.std.specs.Prelude.{ℕ, ◌≡◌, ◌⊎◌, Bool, true, List, length, Option, is_some}
use Rattle.bpf_isa.specs.declared.instr.Instr.{Instr}
use Rattle.base.specs.declared.causes.VerifierCause.{VerifierCause}
use Rattle.base.specs.declared.causes.VerifierCause.TheVariants as cause
use Rattle.bpf_shape.specs.declared.fault.Fault.{Fault}
use Rattle.bpf_shape.specs.Calls.{callee}
use Rattle.bpf_shape.specs.Chains.{IsFourth}
use Rattle.bpf_shape.specs.Search.{IsMarked}
use Rattle.bpf_shape.specs.Rules.{Holds, IsLowest}

-- a refusal names that rule and its lowest slot
pub record IsBrokenAt (guards : Bool) (program : List (Option Instr)) (rule : VerifierCause) (f : Fault) : Type 0 where
  pub code : f.code ≡ rule
  pub lowest : IsLowest guards program rule f.slot

-- the rules that look at one slot
abbrev pub IsOfSlots : VerifierCause → Type 0
IsOfSlots cause.Target = Unit {0}
IsOfSlots cause.End = Unit {0}
IsOfSlots cause.FramePointer = Unit {0}
IsOfSlots cause.UnknownHelper = Unit {0}
IsOfSlots cause.AgainForm = Unit {0}
IsOfSlots _ = ⊥

-- the rules that look at one slot hold; they come first
pub record KeepsAll (guards : Bool) (program : List (Option Instr)) : Type 0 where
  pub targets : Holds guards program cause.Target
  pub ends : Holds guards program cause.End
  pub frame_pointer : Holds guards program cause.FramePointer
  pub helpers : Holds guards program cause.UnknownHelper
  pub again : Holds guards program cause.AgainForm

-- the first broken one of the two rules about paths, which ask the same with guards and without
abbrev pub IsFirstOfPaths : List (Option Instr) → Fault → Type 0
IsFirstOfPaths program f = IsBrokenAt true program cause.Loop f ⊎ (Holds true program cause.Loop × IsBrokenAt true program cause.CallDepth f)

-- the marked local calls are the last of four in a chain from slot 0
pub record AreDeep (program : List (Option Instr)) (deep : List Bool) : Type 0 where
  pub long : length deep ≡ length program
  pub sound : (d : ℕ) → IsMarked deep d → is_some (callee program d) ≡ true → IsFourth program d
  pub complete : (d : ℕ) → IsFourth program d → IsMarked deep d
