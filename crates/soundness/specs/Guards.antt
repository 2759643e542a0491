-- What is promised of a program that is accepted with guards (docs/VERIFIER.md, Guards).
use Rattle.std.specs.Prelude.{◌≡◌, ◌<◌, ℕ, zero, suc, true, List, length, Option, None, Some, slice_get}
use Rattle.bpf_isa.specs.declared.instr.Instr.{Instr}
use Rattle.helpers.specs.declared.device.Context.{Context}
use Rattle.machine.specs.State.{State, start}
use Rattle.machine.specs.Memory.{context_bytes}
use Rattle.machine.specs.Step.{Stepped, Next, Fault}
use Rattle.machine.specs.Outcome.{Ending, Verdict, Stray}
use Rattle.machine.specs.OwnMemory.{memory_size, zero_memory}
use Rattle.machine.specs.Guards.{filled, Made, guarded_step, guarded_outcome}
use Rattle.ranges.specs.States.{Abstract}
use Rattle.verifier.specs.Guards.{is_guarded_at}
use Rattle.verifier.specs.Verdicts.{VerifiedValue, IsVerified}
use Rattle.soundness.specs.Accepted.{IsImage}

-- the bytes of the program's own memory
pub record IsOwn (m : List ℕ) : Type 0 where
  pub long : length m ≡ memory_size
  pub small : (i b : ℕ) → slice_get m i ≡ Some b → b < 256

-- that many steps with guards lead from the start to a memory and a state
abbrev pub GuardedReached : List (Option Instr) → List ℕ → List (List ℕ) → ℕ → List ℕ → State → Type 0
GuardedReached program context device zero m s = (m ≡ zero_memory) × (s ≡ filled start)
GuardedReached program context device (suc n) m s =
    (before : List ℕ) × (last : State) × (GuardedReached program context device n before last × (guarded_step program context device before last ≡ Some (record { stepped = Next s; memory = m })))

-- a step is no fault, and it strays at a guarded slot of the table alone
abbrev pub IsNoFaultStep : Stepped → Type 0
IsNoFaultStep (Fault cause slot) = ⊥
IsNoFaultStep _ = Unit {0}

abbrev pub IsNoFaultWithGuards : List (Option Instr) → List (Option Abstract) → State → Option Made → Type 0
IsNoFaultWithGuards program table s None = is_guarded_at program table s.slot ≡ true
IsNoFaultWithGuards program table s (Some made) = IsNoFaultStep made.stepped

-- the end of a run is a verdict, or it strays at a slot that the table guards
abbrev pub IsOver : List (Option Instr) → List (Option Abstract) → Ending → Type 0
IsOver program table (Verdict answer codes) = Unit {0}
IsOver program table (Stray slot) = is_guarded_at program table slot ≡ true
IsOver program table _ = ⊥

-- A run with guards is safe: no step is a fault, and none strays but at a guarded slot of the table; and within that many
-- steps it ends in a verdict, or strays at such a slot.
pub record IsSafeRunWithGuards (program : List (Option Instr)) (table : List (Option Abstract)) (device : List (List ℕ)) (context : Context) (budget : ℕ) : Type 0 where
  pub faultless : (n : ℕ) (m : List ℕ) (s : State) → GuardedReached program (context_bytes context) device n m s
      → IsNoFaultWithGuards program table s (guarded_step program (context_bytes context) device m s)
  pub ends : IsOver program table (guarded_outcome program device context budget)

-- a program that is accepted with guards runs safely within its budget on each image of the size for which it was accepted
abbrev pub GuardedRunsSafely : Type 0
GuardedRunsSafely = (v : VerifiedValue) (device : List (List ℕ)) (context : Context)
    → IsVerified v → v.guards ≡ true → IsImage v.sectors device context → IsSafeRunWithGuards v.program v.table device context v.budget
