-- A run goes on from each state that it reaches.
use Rattle.std.proofs.Common.{ℕ, zero, suc, ◌≡◌, ◌+◌, List, Option, refl, sym, ◌∙◌, ap, arith}
use Rattle.base.specs.declared.causes.MachineFault.{MachineFault}
use Rattle.bpf_isa.specs.declared.instr.Instr.{Instr}
use Rattle.machine.specs.State.{State, start}
use Rattle.machine.specs.Step.{Stepped, Next, Done, Fault, step}
use Rattle.machine.specs.Outcome.{Verdict, Stopped, OutOfSteps, after, steps_end}
use Rattle.soundness.specs.Reaching.{Reached, StepsWithoutFault, RunsGoOn, FaultsAreOfSteps}

pub runs_go_on : RunsGoOn
unfolding steps_end
runs_go_on program context device zero m s reached =
    let e : 0 + m ≡ m = omega arith in
    rw (e, reached) refl
runs_go_on program context device (suc n) m s reached =
    let e : suc n + m ≡ n + suc m = omega arith in
    rw e (runs_go_on program context device n (suc m) reached.0 reached.1.0 ∙ ap (after (steps_end program context device m)) reached.1.1)

-- a step that is a fault stops the run
stops : (program : List (Option Instr)) (context : List ℕ) (device : List (List ℕ)) (s : State) (cause : MachineFault) (slot : ℕ)
    → step program context device s ≡ Fault cause slot → steps_end program context device 1 s ≡ Stopped cause slot
unfolding steps_end
stops program context device s cause slot e = ap (after (steps_end program context device 0)) e

-- the first step of a run that stops at a fault, or a later one, is a fault
pub no_stop : (program : List (Option Instr)) (context : List ℕ) (device : List (List ℕ)) (m n : ℕ) (s : State) (cause : MachineFault) (slot : ℕ)
    → StepsWithoutFault program context device → Reached program context device n s → steps_end program context device m s ≡ Stopped cause slot → ⊥
unfolding steps_end
no_stop program context device zero n s cause slot fine reached stop = let bad : OutOfSteps ≡ Stopped cause slot = stop in cc
no_stop program context device (suc m) n s cause slot fine reached stop =
    by_step (no_stop program context device m (suc n)) (step program context device s) refl
  where
    by_step : ((t : State) (c : MachineFault) (p : ℕ) → StepsWithoutFault program context device → Reached program context device (suc n) t
        → steps_end program context device m t ≡ Stopped c p → ⊥)
        → (x : Stepped) → step program context device s ≡ x → ⊥
    by_step later (Next t) e = later t cause slot fine (s, (reached, e)) (sym (ap (after (steps_end program context device m)) e) ∙ stop)
    by_step later (Done a codes) e =
        let bad : Verdict a codes ≡ Stopped cause slot = sym (ap (after (steps_end program context device m)) e) ∙ stop in
        cc
    by_step later (Fault c p) e = fine n s c p reached e

pub faults_are_of_steps : FaultsAreOfSteps
faults_are_of_steps program context device = (
  λ never n s cause slot reached e.
      never (n + 1) cause slot (runs_go_on program context device n 1 s reached ∙ stops program context device s cause slot e),
  λ fine n cause slot stop. no_stop program context device n 0 start cause slot fine refl stop,
)
