-- Walks along edges (docs/VERIFIER.md, Control edges and Shape rules).
use Rattle.std.specs.Prelude.{ℕ, ◌≡◌, ◌⊎◌, List, [], ◌∷◌, Option, Some}
use Rattle.bpf_isa.specs.declared.instr.Instr.{Instr}
use Rattle.bpf_shape.specs.declared.edges.Edges.{Edges}
use Rattle.bpf_shape.specs.Edges.{control}
use Rattle.bpf_shape.specs.Again.{plain}

-- one of the edges leads to slot t
abbrev pub Leads : Edges → ℕ → Type 0
Leads e t = (e.next ≡ Some t) ⊎ (e.target ≡ Some t)

-- from slot s an edge leads to the first slot of the list, from there one to the second, and so on
abbrev pub IsWalk : (ℕ → Edges) → ℕ → List ℕ → Type 0
IsWalk next s [] = Unit {0}
IsWalk next s (t ∷ rest) = Leads (next s) t × IsWalk next t rest

-- where such a walk ends
abbrev pub end_of : ℕ → List ℕ → ℕ
end_of s [] = s
end_of s (t ∷ rest) = end_of t rest

-- a walk leads from slot s to slot t; each slot is reached from itself
pub record Reaches (next : ℕ → Edges) (s t : ℕ) : Type 0 where
  pub slots : List ℕ
  pub walk : IsWalk next s slots
  pub ends : end_of s slots ≡ t

-- from one of these slots a walk leads to slot t
pub record LeadsTo (next : ℕ → Edges) (starts : ℕ → Type 0) (t : ℕ) : Type 0 where
  pub first : ℕ
  pub leads : starts first
  pub on : Reaches next first t

-- an edge of the slot begins a walk that leads back to it
abbrev pub OnCycle : (ℕ → Edges) → ℕ → Type 0
OnCycle next s = LeadsTo next (Leads (next s)) s

-- a path: a walk without again edges
abbrev pub IsPath : List (Option Instr) → ℕ → List ℕ → Type 0
IsPath program s slots = IsWalk (plain program) s slots

-- slot s is reached from slot 0, along again edges too
abbrev pub IsReached : List (Option Instr) → ℕ → Type 0
IsReached program s = Reaches (control program) 0 s
