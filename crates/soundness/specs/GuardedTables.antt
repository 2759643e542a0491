-- A table that is good with guards covers what a run with guards reaches (docs/VERIFIER.md, Guards).
use Rattle.std.specs.Prelude.{◌≡◌, ℕ, Bool, true, List, length, Option, None, Some}
use Rattle.bpf_isa.specs.declared.instr.Instr.{Instr}
use Rattle.helpers.specs.declared.device.Context.{Context}
use Rattle.machine.specs.State.{State}
use Rattle.machine.specs.Memory.{context_bytes}
use Rattle.machine.specs.Step.{Stepped, Next, Done, Fault}
use Rattle.machine.specs.Guards.{filled, Made, guarded_step}
use Rattle.ranges.specs.States.{Abstract}
use Rattle.verifier.specs.Tables.{AreStates, rule_with, sent_with}
use Rattle.verifier.specs.Good.{IsGoodWith}
use Rattle.verifier.specs.Guards.{is_guarded_at}
use Rattle.soundness.specs.Machines.{IsSetting}
use Rattle.soundness.specs.Laws.{IsKnown, IsCovered, IsNoFault, Follows}
use Rattle.soundness.specs.Guards.{IsOwn, GuardedReached}

-- What a covered step with guards comes to, where the slot is guarded or isn't: it strays at a guarded slot alone, and
-- else it is no fault. Where the machine goes on, it is one that is covered again, each unset byte of its stacks set to 0.
-- The memory has bytes again.
abbrev pub IsCoveredStep : List (Option Instr) → ℕ → List (Option Abstract) → List (ℕ × Abstract) → State → Stepped → Type 0
IsCoveredStep program sectors table arrivals s (Next u) = (t : State) × (u ≡ filled t) × IsCovered program sectors table arrivals s (Next t)
IsCoveredStep program sectors table arrivals s (Done answer codes) = IsCovered program sectors table arrivals s (Done answer codes)
IsCoveredStep program sectors table arrivals s (Fault cause slot) = ⊥

abbrev pub IsCoveredWithGuards : List (Option Instr) → ℕ → List (Option Abstract) → Bool → List (ℕ × Abstract) → State → Option Made → Type 0
IsCoveredWithGuards program sectors table may_stray arrivals s None = may_stray ≡ true
IsCoveredWithGuards program sectors table may_stray arrivals s (Some made) = IsOwn made.memory × IsCoveredStep program sectors table arrivals s made.stepped

-- where a slot breaks no rule with guards, the step with guards of a machine that its state covers, and that has no unset
-- byte, is covered by what the slot sends with guards, or by what the table knows where a local function returns
abbrev pub GuardedStepIsCovered : Type 0
GuardedStepIsCovered = (program : List (Option Instr)) (sectors : ℕ) (device : List (List ℕ)) (context : Context) (table : List (Option Abstract)) (m : List ℕ) (s : State)
    → IsSetting program sectors device context → AreStates table → IsOwn m → IsKnown program sectors table s → filled s ≡ s → rule_with true program table s.slot ≡ None
    → IsCoveredWithGuards program sectors table (is_guarded_at program table s.slot) (sent_with true program sectors table s.slot) s
    (guarded_step program (context_bytes context) device m s)

-- A step with guards over a table that is good with guards: the machine goes on to one that the table covers again, without
-- an unset byte.
pub record IsSafeWithGuards (program : List (Option Instr)) (sectors : ℕ) (table : List (Option Abstract)) (s : State) (made : Option Made) : Type 0 where
  pub strays : made ≡ None → is_guarded_at program table s.slot ≡ true
  pub sound : (x : Made) → made ≡ Some x → IsNoFault x.stepped
  pub goes : (t : State) (m : List ℕ) → made ≡ Some (record { stepped = Next t; memory = m }) → IsOwn m × IsKnown program sectors table t × (filled t ≡ t) × Follows program s t
  pub ends : (answer : ℕ) (codes m : List ℕ) → made ≡ Some (record { stepped = Done answer codes; memory = m }) → length s.frames ≡ 1

-- a table that is good with guards covers each machine that is reached, and each step of it is safe: none is a fault, and
-- none strays where the slot isn't guarded
pub record GuardedTableCovers : Type 0 where
  pub reached : (program : List (Option Instr)) (sectors : ℕ) (device : List (List ℕ)) (context : Context) (table : List (Option Abstract)) (n : ℕ) (m : List ℕ) (s : State)
      → IsSetting program sectors device context → IsGoodWith true program sectors table → GuardedReached program (context_bytes context) device n m s
      → IsOwn m × IsKnown program sectors table s × (filled s ≡ s)
  pub safe : (program : List (Option Instr)) (sectors : ℕ) (device : List (List ℕ)) (context : Context) (table : List (Option Abstract)) (n : ℕ) (m : List ℕ) (s : State)
      → IsSetting program sectors device context → IsGoodWith true program sectors table → GuardedReached program (context_bytes context) device n m s
      → IsSafeWithGuards program sectors table s (guarded_step program (context_bytes context) device m s)
