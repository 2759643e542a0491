-- The first breach of a table, with guards or without (docs/VERIFIER.md, Good table and Guards): the length, the start, then the slots in
-- rising order, the rules of a slot before its edges.
use Rattle.std.specs.Prelude.{◌≡◌, ◌≢◌, ◌<◌, ◌⊎◌, ℕ, Bool, List, length, Option, None, Some}
use Rattle.base.specs.declared.causes.VerifierCause.{VerifierCause}
use Rattle.base.specs.declared.causes.VerifierCause.TheVariants as cause
use Rattle.bpf_isa.specs.declared.instr.Instr.{Instr}
use Rattle.ranges.specs.States.{Abstract, start}
use Rattle.verifier.specs.Tables.{state_at, Covers, CoversAll, rule_with, sent_with}
use Rattle.verifier.specs.Good.{IsGoodAt}

-- an edge of a slot along which something is passed that isn't contained where it arrives
pub record LeavesOut (guards : Bool) (program : List (Option Instr)) (sectors : ℕ) (table : List (Option Abstract)) (slot : ℕ) : Type 0 where
  pub rules : rule_with guards program table slot ≡ None
  pub edges : CoversAll table (sent_with guards program sectors table slot) → ⊥

-- what a slot breaks first: a rule, or an edge
abbrev pub BreaksAt : Bool → List (Option Instr) → ℕ → List (Option Abstract) → ℕ → VerifierCause → Type 0
BreaksAt guards program sectors table slot c = (rule_with guards program table slot ≡ Some c) ⊎ ((c ≡ cause.Unsettled) × LeavesOut guards program sectors table slot)

-- the lowest slot that breaks something
pub record FirstSlot (guards : Bool) (program : List (Option Instr)) (sectors : ℕ) (table : List (Option Abstract)) (c : VerifierCause) (slot : ℕ) : Type 0 where
  pub breaks : BreaksAt guards program sectors table slot c
  pub lowest : (s : ℕ) → s < slot → IsGoodAt guards program sectors table s

pub data FirstBreach (guards : Bool) (program : List (Option Instr)) (sectors : ℕ) (table : List (Option Abstract)) : VerifierCause → ℕ → Type 0 where
  wrong_length : length table ≢ length program → FirstBreach guards program sectors table cause.Unsettled 0
  no_start : length table ≡ length program → (Covers (state_at table 0) start → ⊥) → FirstBreach guards program sectors table cause.Unsettled 0
  at_slot : (c : VerifierCause) (slot : ℕ) → length table ≡ length program → Covers (state_at table 0) start
      → FirstSlot guards program sectors table c slot → FirstBreach guards program sectors table c slot

-- the lowest slot that breaks a rule, edges aside
pub record FirstRule (guards : Bool) (program : List (Option Instr)) (table : List (Option Abstract)) (c : VerifierCause) (slot : ℕ) : Type 0 where
  pub breaks : rule_with guards program table slot ≡ Some c
  pub lowest : (s : ℕ) → s < slot → rule_with guards program table s ≡ None

-- no slot breaks a rule
abbrev pub KeepsRules : Bool → List (Option Instr) → List (Option Abstract) → Type 0
KeepsRules guards program table = (slot : ℕ) → rule_with guards program table slot ≡ None
