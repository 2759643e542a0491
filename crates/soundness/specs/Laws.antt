-- What holds of the states that the verifier passes on.
use Rattle.std.specs.Prelude.{◌≡◌, ◌<◌, ℕ, ◌+◌, ◌^◌, ◌⊎◌, true, List, [], ◌∷◌, ◌++◌, length, Option, None, Some}
use Rattle.std.specs.Option.{option_map}
use Rattle.bpf_isa.specs.declared.instr.Instr.{Instr}
use Rattle.bpf_shape.specs.Edges.{control, begins}
use Rattle.bpf_shape.specs.Calls.{callee}
use Rattle.bpf_shape.specs.Paths.{Leads}
use Rattle.helpers.specs.declared.device.Context.{Context}
use Rattle.machine.specs.State.{Caller, Frame, State, unset_stack}
use Rattle.machine.specs.Memory.{context_bytes}
use Rattle.machine.specs.Step.{Stepped, Next, Done, Fault, caller_of, step}
use Rattle.ranges.specs.States.{Abstract}
use Rattle.ranges.specs.Order.{Under, StateUnder}
use Rattle.ranges.specs.Kinds.{Kind}
use Rattle.verifier.specs.Tables.{state_at, AreStates, rule_at, sent_from}
use Rattle.verifier.specs.Good.{IsGood}
use Rattle.soundness.specs.Meaning.{Means, Covers, frame_number, last_stack}
use Rattle.soundness.specs.Machines.{IsSetting, AreRegisters, IsMachine, HasLimit}
use Rattle.soundness.specs.Callers.{registers_after, CoversWaiting, AreWaiting}
use Rattle.soundness.specs.Reaching.{Reached}

-- a state that knows less covers what one does that knows more
pub record OrderKeepsMeaning : Type 0 where
  pub values : (sectors frame : ℕ) (k l : Kind) (c : Option ℕ) → Under k l → Means sectors frame k c → Means sectors frame l c
  pub states : (sectors : ℕ) (known less : Abstract) (s : State) → StateUnder known less → Covers sectors known s → Covers sectors less s

-- A machine at an instruction, and the state of the table at its slot, which covers it. The frames below
-- wait, each covered by the state of the table after its call.
pub record IsKnown (program : List (Option Instr)) (sectors : ℕ) (table : List (Option Abstract)) (s : State) : Type 0 where
  pub known : Abstract
  pub listed : state_at table s.slot ≡ Some known
  pub covers : Covers sectors known s
  pub whole : IsMachine s
  pub limit : HasLimit program s
  pub here : begins program s.slot ≡ true
  pub waiting : AreWaiting program sectors table 0 0 s.frames s.slot

-- a state of which this holds is sent to the slot
abbrev pub IsSent : (Abstract → Type 0) → ℕ → List (ℕ × Abstract) → Type 0
IsSent holds slot [] = ⊥
IsSent holds slot (p ∷ rest) = ((p.0 ≡ slot) × holds p.1) ⊎ IsSent holds slot rest

-- a state of the list is sent to the machine's slot, and covers the machine
abbrev pub Arrives : ℕ → List (ℕ × Abstract) → State → Type 0
Arrives sectors arrivals t = IsSent (λ known. Covers sectors known t) t.slot arrivals

-- of the frames only the stack of the one at hand has changed
pub record KeepsFrames (before after : List Frame) : Type 0 where
  pub below : List Frame
  pub old : Frame
  pub new : Frame
  pub had : before ≡ below ++ old ∷ []
  pub has : after ≡ below ++ new ∷ []
  pub caller : new.caller ≡ old.caller

-- a machine that goes on in its frame: along a control edge, and covered by a state that is sent there
pub record GoesOn (program : List (Option Instr)) (sectors : ℕ) (arrivals : List (ℕ × Abstract)) (s t : State) : Type 0 where
  pub whole : IsMachine t
  pub limit : HasLimit program t
  pub edge : Leads (control program s.slot) t.slot
  pub frames : KeepsFrames s.frames t.frames
  pub arrives : Arrives sectors arrivals t

-- A machine that enters a local function, in a frame of its own: a state that is sent to the entry covers it,
-- and one that is sent after the call covers the frame that waits.
pub record Enters (program : List (Option Instr)) (sectors : ℕ) (arrivals : List (ℕ × Abstract)) (s t : State) : Type 0 where
  pub whole : IsMachine t
  pub limit : HasLimit program t
  pub calls : callee program s.slot ≡ Some t.slot
  pub caller : Caller
  pub back : caller.slot ≡ s.slot + 1
  pub frames : t.frames ≡ s.frames ++ record { stack = unset_stack; caller = Some caller } ∷ []
  pub registers : (x : ℕ) → x < 2 ^ 64 → AreRegisters (registers_after caller x)
  pub arrives : Arrives sectors arrivals t
  pub waits : IsSent (λ known. CoversWaiting sectors (frame_number s.frames) known (last_stack s.frames) caller) caller.slot arrivals

-- a machine that returns to the slot that its call saved, in the frame below, which the table knows
pub record Returns (program : List (Option Instr)) (sectors : ℕ) (table : List (Option Abstract)) (s t : State) : Type 0 where
  pub back : option_map (λ c. c.slot) (caller_of s.frames) ≡ Some t.slot
  pub frames : length s.frames ≡ length t.frames + 1
  pub known : IsKnown program sectors table t

-- what a covered step comes to: no fault; where the machine goes on, it is covered again; and the end comes
-- in the outermost frame alone
abbrev pub IsCovered : List (Option Instr) → ℕ → List (Option Abstract) → List (ℕ × Abstract) → State → Stepped → Type 0
IsCovered program sectors table arrivals s (Next t) =
    GoesOn program sectors arrivals s t ⊎ (Enters program sectors arrivals s t ⊎ Returns program sectors table s t)
IsCovered program sectors table arrivals s (Done answer codes) = length s.frames ≡ 1
IsCovered program sectors table arrivals s (Fault cause slot) = ⊥

-- where a slot breaks no rule, the step of a machine that its state covers is covered by what the slot
-- sends, or by what the table knows where a local function returns
abbrev pub StepIsCovered : Type 0
StepIsCovered = (program : List (Option Instr)) (sectors : ℕ) (device : List (List ℕ)) (context : Context) (table : List (Option Abstract)) (s : State)
    → IsSetting program sectors device context → AreStates table → IsKnown program sectors table s → rule_at program table s.slot ≡ None
    → IsCovered program sectors table (sent_from program sectors table s.slot) s (step program (context_bytes context) device s)

abbrev pub IsNoFault : Stepped → Type 0
IsNoFault (Next t) = Unit {0}
IsNoFault (Done answer codes) = Unit {0}
IsNoFault (Fault cause slot) = ⊥

-- how control goes on: along a control edge in the same frame; into a local function, in one frame more; or
-- back to the slot that its call saved, in one frame less
abbrev pub Follows : List (Option Instr) → State → State → Type 0
Follows program s t =
    ((length t.frames ≡ length s.frames) × Leads (control program s.slot) t.slot)
    ⊎ (((length t.frames ≡ length s.frames + 1) × (callee program s.slot ≡ Some t.slot))
    ⊎ ((length s.frames ≡ length t.frames + 1) × (option_map (λ c. c.slot) (caller_of s.frames) ≡ Some t.slot)))

-- the same over a good table, and the machine goes on to a machine that the table covers again
pub record IsSafe (program : List (Option Instr)) (sectors : ℕ) (table : List (Option Abstract)) (s : State) (stepped : Stepped) : Type 0 where
  pub sound : IsNoFault stepped
  pub goes : (t : State) → stepped ≡ Next t → IsKnown program sectors table t × Follows program s t
  pub ends : (answer : ℕ) (codes : List ℕ) → stepped ≡ Done answer codes → length s.frames ≡ 1

abbrev pub StepIsSafe : Type 0
StepIsSafe = (program : List (Option Instr)) (sectors : ℕ) (device : List (List ℕ)) (context : Context) (table : List (Option Abstract)) (s : State)
    → IsSetting program sectors device context → IsGood program sectors table → IsKnown program sectors table s
    → IsSafe program sectors table s (step program (context_bytes context) device s)

-- a good table covers each machine that is reached, and no step is a fault
pub record TableCovers : Type 0 where
  pub reached : (program : List (Option Instr)) (sectors : ℕ) (device : List (List ℕ)) (context : Context) (table : List (Option Abstract)) (n : ℕ) (s : State)
      → IsSetting program sectors device context → IsGood program sectors table → Reached program (context_bytes context) device n s
      → IsKnown program sectors table s
  pub sound : (program : List (Option Instr)) (sectors : ℕ) (device : List (List ℕ)) (context : Context) (table : List (Option Abstract)) (n : ℕ) (s : State)
      → IsSetting program sectors device context → IsGood program sectors table → Reached program (context_bytes context) device n s
      → IsNoFault (step program (context_bytes context) device s)
