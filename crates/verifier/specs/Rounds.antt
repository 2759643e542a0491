-- Inference by rounds, with guards or without (docs/VERIFIER.md, Inference).
use Rattle.std.specs.Prelude.{◌≡◌, ℕ, zero, suc, Bool, if◌then◌else◌, List, [], length, replicate, set, Option, None, Some, is_some}
use Rattle.std.specs.List.{fold, flat_map, range_with_len}
use Rattle.bpf_isa.specs.declared.instr.Instr.{Instr}
use Rattle.ranges.specs.States.{Abstract, join_state, start}
use Rattle.verifier.specs.Tables.{state_at, rule_with, sent_with}

-- what is known at a slot once a state has arrived
abbrev pub join_arrival : Option Abstract → Abstract → Abstract
join_arrival None s = s
join_arrival (Some t) s = join_state t s

-- a table once a state has arrived
abbrev pub receive : List (Option Abstract) → ℕ × Abstract → List (Option Abstract)
receive table p = set table p.0 (Some (join_arrival (state_at table p.0) p.1))

-- what a slot passes on in a round: nothing, where a rule is broken
abbrev pub passed_by : Bool → List (Option Instr) → ℕ → List (Option Abstract) → ℕ → List (ℕ × Abstract)
passed_by guards program sectors table slot = if is_some (rule_with guards program table slot) then [] else sent_with guards program sectors table slot

-- what all slots pass on
unfoldable pub passed_states : Bool → List (Option Instr) → ℕ → List (Option Abstract) → List (ℕ × Abstract)
passed_states guards program sectors table = flat_map (passed_by guards program sectors table) (range_with_len 0 (length program))

-- a round: all that is passed by the table before arrives
unfoldable pub round_of : Bool → List (Option Instr) → ℕ → List (Option Abstract) → List (Option Abstract)
round_of guards program sectors table = fold receive table (passed_states guards program sectors table)

-- the start in slot 0, and no other state
unfoldable pub first_table : ℕ → List (Option Abstract)
first_table slots = set (replicate slots None) 0 (Some start)

-- the table of that many rounds
abbrev pub rounds : Bool → List (Option Instr) → ℕ → ℕ → List (Option Abstract)
rounds guards program sectors zero = first_table (length program)
rounds guards program sectors (suc n) = round_of guards program sectors (rounds guards program sectors n)

-- a round changes nothing
abbrev pub IsSame : Bool → List (Option Instr) → ℕ → List (Option Abstract) → Type 0
IsSame guards program sectors table = round_of guards program sectors table ≡ table

-- the table at which the rounds end: one of them, which a round doesn't change
pub record IsSettled (guards : Bool) (program : List (Option Instr)) (sectors : ℕ) (table : List (Option Abstract)) : Type 0 where
  pub turns : ℕ
  pub is : table ≡ rounds guards program sectors turns
  pub same : IsSame guards program sectors table
