-- The end of a run within the budget (docs/VERIFIER.md, Budget).
use Rattle.std.specs.Prelude.{◌≡◌, ℕ, Bool, List, Option}
use Rattle.bpf_isa.specs.declared.instr.Instr.{Instr}
use Rattle.bpf_isa.specs.Program.{IsProgram}
use Rattle.bpf_shape.specs.Budget.{IsBudget}
use Rattle.bpf_shape.specs.Rules.{IsShaped}
use Rattle.machine.specs.State.{start}
use Rattle.machine.specs.Outcome.{Verdict, steps_end}
use Rattle.soundness.specs.Reaching.{NeverFaults}

-- within that many steps from the start the program ends in a verdict
pub record EndsWithin (program : List (Option Instr)) (context : List ℕ) (device : List (List ℕ)) (limit : ℕ) : Type 0 where
  pub answer : ℕ
  pub codes : List ℕ
  pub verdict : steps_end program context device limit start ≡ Verdict answer codes

-- a program of right shape, with guards or without, whose run meets no fault ends within its budget
abbrev pub RunsEndWithinBudget : Type 0
RunsEndWithinBudget = (guards : Bool) (program : List (Option Instr)) (context : List ℕ) (device : List (List ℕ)) (budget : ℕ)
    → IsProgram program → IsShaped guards program → IsBudget program budget → NeverFaults program context device
    → EndsWithin program context device budget
