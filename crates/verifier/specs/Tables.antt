-- What a table knows at a slot, which rule is broken there, and what the slot passes on, by both kinds of acceptance
-- (docs/VERIFIER.md, Good table and Guards). A table is a list with a state, or none, for each slot.
use Rattle.std.specs.Prelude.{ℕ, ◌&&◌, Bool, false, if◌then◌else◌, List, [], map, get_or, Option, None, Some}
use Rattle.base.specs.Check.{first_failing}
use Rattle.base.specs.declared.causes.VerifierCause.{VerifierCause}
use Rattle.bpf_isa.specs.declared.instr.Instr.{Instr}
use Rattle.bpf_isa.specs.Slots.{at}
use Rattle.bpf_shape.specs.Again.{heads}
use Rattle.ranges.specs.Rules.{rules_with}
use Rattle.ranges.specs.States.{Abstract, round_state, StateContains}
use Rattle.ranges.specs.Passing.{passed_with}
use Rattle.ranges.specs.Guards.{breaks_rule}
use Rattle.ranges.specs.Order.{Each, Holds, IsState}

-- what is known at a slot; None where it has no state
abbrev pub state_at : List (Option Abstract) → ℕ → Option Abstract
state_at table slot = get_or table slot None

-- there is a state, and it contains that one
abbrev pub Covers : Option Abstract → Abstract → Type 0
Covers None s = ⊥
Covers (Some t) s = StateContains t s

-- each of these states is contained in the one at the slot to which it is passed
abbrev pub CoversAll : List (Option Abstract) → List (ℕ × Abstract) → Type 0
CoversAll table arrivals = Each (λ p. Covers (state_at table p.0) p.1) arrivals

-- its states are within the bounds of states
abbrev pub AreStates : List (Option Abstract) → Type 0
AreStates table = (slot : ℕ) → Holds IsState (state_at table slot)

-- a state as it arrives at a slot: rounded where the slot is marked as a head
abbrev pub arriving : List Bool → ℕ → Abstract → Abstract
arriving heads slot s = if get_or heads slot false then round_state s else s

abbrev pub arrival : List Bool → ℕ × Abstract → ℕ × Abstract
arrival heads p = (p.0, arriving heads p.0 p.1)

-- with guards a state is passed on where a rule without guards is broken
abbrev pub is_loose : Bool → Abstract → Instr → Bool
is_loose guards s i = guards && breaks_rule s i

-- to which slots what state is passed, by both kinds of acceptance: with guards, or without
abbrev pub passes_with : Bool → ℕ → Abstract → ℕ → Instr → List (ℕ × Abstract)
passes_with guards sectors s slot i = passed_with (is_loose guards s i) sectors s slot i

-- of an instruction with a state: the first rule that is broken
abbrev pub broken_with : Bool → Option Instr → Option Abstract → Option VerifierCause
broken_with guards (Some i) (Some s) = first_failing (rules_with guards s i)
broken_with guards _ _ = None

-- and what it passes on, with the slots to which it is passed
abbrev pub passed_on_with : Bool → List Bool → ℕ → ℕ → Option Instr → Option Abstract → List (ℕ × Abstract)
passed_on_with guards heads sectors slot (Some i) (Some s) = map (arrival heads) (passes_with guards sectors s slot i)
passed_on_with guards heads sectors slot _ _ = []

-- The first rule that is broken at a slot. None is broken where there is no state, or in a second half.
unfoldable pub rule_with : Bool → List (Option Instr) → List (Option Abstract) → ℕ → Option VerifierCause
rule_with guards program table slot = broken_with guards (at program slot) (state_at table slot)

-- what a slot passes on to which slots, as it arrives there, on a device of that many sectors
unfoldable pub sent_with : Bool → List (Option Instr) → ℕ → List (Option Abstract) → ℕ → List (ℕ × Abstract)
sent_with guards program sectors table slot = passed_on_with guards (heads program) sectors slot (at program slot) (state_at table slot)

-- the same without guards
abbrev pub rule_at : List (Option Instr) → List (Option Abstract) → ℕ → Option VerifierCause
rule_at program table slot = rule_with false program table slot

abbrev pub sent_from : List (Option Instr) → ℕ → List (Option Abstract) → ℕ → List (ℕ × Abstract)
sent_from program sectors table slot = sent_with false program sectors table slot
