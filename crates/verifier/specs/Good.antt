-- Good tables, with guards or without (docs/VERIFIER.md, Good table and Guards). That the states are within their bounds
-- needs no test: a `Table` has no others.
use Rattle.std.specs.Prelude.{◌≡◌, ℕ, Bool, false, List, length, Option, None}
use Rattle.bpf_isa.specs.declared.instr.Instr.{Instr}
use Rattle.ranges.specs.States.{Abstract, start}
use Rattle.verifier.specs.Tables.{state_at, Covers, CoversAll, AreStates, rule_with, sent_with}

-- a slot breaks no rule, and what it passes on is contained where it arrives
pub record IsGoodAt (guards : Bool) (program : List (Option Instr)) (sectors : ℕ) (table : List (Option Abstract)) (slot : ℕ) : Type 0 where
  pub rules : rule_with guards program table slot ≡ None
  pub edges : CoversAll table (sent_with guards program sectors table slot)

pub record IsGoodWith (guards : Bool) (program : List (Option Instr)) (sectors : ℕ) (table : List (Option Abstract)) : Type 0 where
  pub states : AreStates table
  pub long : length table ≡ length program
  pub start : Covers (state_at table 0) start
  pub slots : (slot : ℕ) → IsGoodAt guards program sectors table slot

-- without guards
abbrev pub IsGood : List (Option Instr) → ℕ → List (Option Abstract) → Type 0
IsGood program sectors table = IsGoodWith false program sectors table
