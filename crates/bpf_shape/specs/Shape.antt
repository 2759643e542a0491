-- What is known of a program of right shape.
use Rattle.std.specs.Prelude.{ℕ, ◌≡◌, ◌≤◌, Bool, List, Option}
use Rattle.bpf_isa.specs.declared.instr.Instr.{Instr}
use Rattle.bpf_shape.specs.Again.{heads}
use Rattle.bpf_shape.specs.Budget.{IsBudget, most_steps}
use Rattle.bpf_shape.specs.Rules.{IsShaped}

-- a budget, and for each slot whether it is a head
pub record ShapeValue : Type 0 where
  pub budget : ℕ
  pub heads : List Bool

-- the program has right shape, with guards or without, and this is its shape
pub record IsShapeOf (guards : Bool) (program : List (Option Instr)) (shape : ShapeValue) : Type 0 where
  pub rules : IsShaped guards program
  pub budget : IsBudget program shape.budget
  pub limit : shape.budget ≤ most_steps
  pub heads : shape.heads ≡ heads program
