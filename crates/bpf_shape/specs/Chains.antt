-- Chains of local calls (docs/VERIFIER.md, Calls within calls).
use Rattle.std.specs.Prelude.{ℕ, ◌≡◌, true, List, [], ◌∷◌, Option, Some, is_some}
use Rattle.bpf_isa.specs.declared.instr.Instr.{Instr}
use Rattle.bpf_shape.specs.Edges.{control}
use Rattle.bpf_shape.specs.Calls.{callee}
use Rattle.bpf_shape.specs.Paths.{end_of, Reaches, IsReached}

-- the local call at slot d is within the one at slot c: it is reached from the entry of that
pub record IsWithin (program : List (Option Instr)) (c d : ℕ) : Type 0 where
  pub entry : ℕ
  pub enters : callee program c ≡ Some entry
  pub reached : Reaches (control program) entry d
  pub calls : is_some (callee program d) ≡ true

-- a chain: the first call of the list is within the one at slot c, the second within the first, and so on
abbrev pub IsChain : List (Option Instr) → ℕ → List ℕ → Type 0
IsChain program c [] = Unit {0}
IsChain program c (d ∷ rest) = IsWithin program c d × IsChain program d rest

-- a local call that is within itself through a chain
pub record IsRecursive (program : List (Option Instr)) (c : ℕ) : Type 0 where
  pub first : ℕ
  pub rest : List ℕ
  pub chain : IsChain program c (first ∷ rest)
  pub back : end_of first rest ≡ c

-- the last of four local calls in a chain whose first is reached from slot 0
pub record IsFourth (program : List (Option Instr)) (d : ℕ) : Type 0 where
  pub first : ℕ
  pub second : ℕ
  pub third : ℕ
  pub reached : IsReached program first
  pub chain : IsChain program first (second ∷ third ∷ d ∷ [])
