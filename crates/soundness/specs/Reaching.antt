-- The states that the machine reaches (docs/MACHINE.md, Outcome).
use Rattle.std.specs.Prelude.{◌≡◌, ◌↔◌, ℕ, zero, suc, ◌+◌, List, Option}
use Rattle.base.specs.declared.causes.MachineFault.{MachineFault}
use Rattle.bpf_isa.specs.declared.instr.Instr.{Instr}
use Rattle.machine.specs.State.{State, start}
use Rattle.machine.specs.Step.{Next, Fault, step}
use Rattle.machine.specs.Outcome.{Stopped, steps_end}

-- that many steps lead from the start to a state
abbrev pub Reached : List (Option Instr) → List ℕ → List (List ℕ) → ℕ → State → Type 0
Reached program context device zero s = s ≡ start
Reached program context device (suc n) s =
    (last : State) × (Reached program context device n last × (step program context device last ≡ Next s))

-- no step from a reached state is a fault
abbrev pub StepsWithoutFault : List (Option Instr) → List ℕ → List (List ℕ) → Type 0
StepsWithoutFault program context device =
    (n : ℕ) (s : State) (cause : MachineFault) (slot : ℕ) → Reached program context device n s → step program context device s ≡ Fault cause slot → ⊥

-- however many steps are made, the run does not stop at a fault
abbrev pub NeverFaults : List (Option Instr) → List ℕ → List (List ℕ) → Type 0
NeverFaults program context device = (n : ℕ) (cause : MachineFault) (slot : ℕ) → steps_end program context device n start ≡ Stopped cause slot → ⊥

-- a run goes on from each state that it reaches
abbrev pub RunsGoOn : Type 0
RunsGoOn = (program : List (Option Instr)) (context : List ℕ) (device : List (List ℕ)) (n m : ℕ) (s : State)
    → Reached program context device n s → steps_end program context device (n + m) start ≡ steps_end program context device m s

-- a run never stops at a fault where no step from a reached state is one, and the other way round
abbrev pub FaultsAreOfSteps : Type 0
FaultsAreOfSteps = (program : List (Option Instr)) (context : List ℕ) (device : List (List ℕ))
    → NeverFaults program context device ↔ StepsWithoutFault program context device
