-- Tables to which a search comes that passes on what a slot knows, one slot after the other, in any order
-- (docs/VERIFIER.md, Inference).
use Rattle.std.specs.Prelude.{◌≡◌, ℕ, Bool, List, length, Option, Some}
use Rattle.bpf_isa.specs.declared.instr.Instr.{Instr}
use Rattle.ranges.specs.States.{Abstract}
use Rattle.ranges.specs.Order.{Each, EdgeUnder}
use Rattle.verifier.specs.Tables.{state_at, AreStates, sent_with}
use Rattle.verifier.specs.Rounds.{first_table}

-- what is known of each slot in the first table is under what is known there in the second
abbrev pub Below : List (Option Abstract) → List (Option Abstract) → Type 0
Below t g = (slot : ℕ) → EdgeUnder (state_at t slot) (state_at g slot)

-- what arrives is under what is known where it arrives
abbrev pub AllBelow : List (Option Abstract) → List (ℕ × Abstract) → Type 0
AllBelow g arrivals = Each (λ p. EdgeUnder (Some p.1) (state_at g p.0)) arrivals

-- A table takes in some of what arrives, or all of it: it stays below each table that it was below and that knows all that arrives.
pub record TakesIn (old : List (Option Abstract)) (arrivals : List (ℕ × Abstract)) (new : List (Option Abstract)) : Type 0 where
  pub long : length new ≡ length old
  pub states : AreStates old → AreStates new
  pub below : (g : List (Option Abstract)) → AreStates g → Below old g → AllBelow g arrivals → Below new g

-- the start in slot 0, and then one slot after the other passes on some of what it knows
pub data IsSought (guards : Bool) (program : List (Option Instr)) (sectors : ℕ) : List (Option Abstract) → Type 0 where
  at_first : IsSought guards program sectors (first_table (length program))
  one_more : (old new : List (Option Abstract)) (slot : ℕ) → IsSought guards program sectors old → TakesIn old (sent_with guards program sectors old slot) new
      → IsSought guards program sectors new
