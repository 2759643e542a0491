-- The budget (docs/VERIFIER.md, Budget).
use Rattle.std.specs.Prelude.{ℕ, ◌+◌, ◌*◌, ◌≡◌, List, Option}
use Rattle.bpf_isa.specs.declared.instr.Instr.{Instr}
use Rattle.bpf_shape.specs.Again.{turns}
use Rattle.bpf_shape.specs.Weights.{IsLongest, AreWeights}

-- In a program without a chain of four calls from slot 0, all calls are followed where three deep are
-- (law DeeperIsTheSame).
abbrev pub most_calls : ℕ
most_calls = 3

-- one more than the sum of all K, times the longest path of slot 0
pub record IsBudget (program : List (Option Instr)) (n : ℕ) : Type 0 where
  pub weight : ℕ → ℕ
  pub weights : AreWeights program most_calls weight
  pub longest : ℕ
  pub path : IsLongest program weight 0 longest
  pub product : n ≡ (1 + turns program) * longest

-- the greatest budget that is accepted
abbrev pub most_steps : ℕ
most_steps = 1000000000
