-- The least good table, with guards or without (docs/VERIFIER.md, Good table and Guards).
use Rattle.std.specs.Prelude.{ℕ, Bool, List, Option}
use Rattle.bpf_isa.specs.declared.instr.Instr.{Instr}
use Rattle.ranges.specs.States.{Abstract}
use Rattle.ranges.specs.Order.{Holds}
use Rattle.verifier.specs.Tables.{state_at, Covers}
use Rattle.verifier.specs.Good.{IsGoodWith}

-- each state of the first table is contained in that of the second at its slot
abbrev pub IsContained : List (Option Abstract) → List (Option Abstract) → Type 0
IsContained t g = (slot : ℕ) → Holds (Covers (state_at g slot)) (state_at t slot)

-- a good table that is contained in each good table
pub record IsLeast (guards : Bool) (program : List (Option Instr)) (sectors : ℕ) (table : List (Option Abstract)) : Type 0 where
  pub good : IsGoodWith guards program sectors table
  pub least : (g : List (Option Abstract)) → IsGoodWith guards program sectors g → IsContained table g

-- no table is good
abbrev pub HasNoGood : Bool → List (Option Instr) → ℕ → Type 0
HasNoGood guards program sectors = (g : List (Option Abstract)) → IsGoodWith guards program sectors g → ⊥
