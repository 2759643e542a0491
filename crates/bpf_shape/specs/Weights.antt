-- Weights of slots and paths (docs/VERIFIER.md, Budget).
use Rattle.std.specs.Prelude.{ℕ, zero, suc, ◌+◌, ◌≡◌, ◌≤◌, List, [], ◌∷◌, Option, None, Some}
use Rattle.bpf_isa.specs.declared.instr.Instr.{Instr}
use Rattle.bpf_shape.specs.Edges.{control}
use Rattle.bpf_shape.specs.Calls.{callee}
use Rattle.bpf_shape.specs.Paths.{IsPath, Reaches}

-- the sum of what the slots of a path weigh
abbrev pub path_weight : (ℕ → ℕ) → ℕ → List ℕ → ℕ
path_weight weight s [] = weight s
path_weight weight s (t ∷ rest) = weight s + path_weight weight t rest

-- a path of weight n, which begins at a slot reached from the entry
pub record HasPath (program : List (Option Instr)) (weight : ℕ → ℕ) (entry n : ℕ) : Type 0 where
  pub first : ℕ
  pub rest : List ℕ
  pub reached : Reaches (control program) entry first
  pub path : IsPath program first rest
  pub heavy : path_weight weight first rest ≡ n

-- n is the longest path of the entry: such a path has weight n, and none has more
pub record IsLongest (program : List (Option Instr)) (weight : ℕ → ℕ) (entry n : ℕ) : Type 0 where
  pub some : HasPath program weight entry n
  pub most : (m : ℕ) → HasPath program weight entry m → m ≤ n

-- what a slot weighs: 1, and a local call one more than the longest path of its entry
abbrev pub Weighs : List (Option Instr) → (ℕ → ℕ) → Option ℕ → ℕ → Type 0
Weighs program inner None n = n ≡ 1
Weighs program inner (Some entry) n = (longest : ℕ) × (IsLongest program inner entry longest × (n ≡ 1 + longest))

-- What slots weigh where calls are followed that many deep: 1 where they aren't followed; else the path of
-- a call is weighed with calls followed one less.
abbrev pub AreWeights : List (Option Instr) → ℕ → (ℕ → ℕ) → Type 0
AreWeights program zero weight = (slot : ℕ) → weight slot ≡ 1
AreWeights program (suc depth) weight =
    (inner : ℕ → ℕ) × (AreWeights program depth inner × ((slot : ℕ) → Weighs program inner (callee program slot) (weight slot)))
