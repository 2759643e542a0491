-- What is passed, edge by edge, and how it arrives. Only this crate's own contracts cite it.
use Rattle.std.specs.Prelude.{◌≡◌, ◌<◌, ◌⊎◌, ℕ, Bool, true, false, if◌then◌else◌, List, [], length, get_or, Option, None, Some}
use Rattle.std.specs.Option.{option_map}
use Rattle.bpf_isa.specs.declared.instr.Instr.{Instr}
use Rattle.bpf_isa.specs.declared.instr.Instr.TheVariants as instr
use Rattle.bpf_shape.specs.Edges.{edges_of}
use Rattle.bpf_shape.specs.Calls.{callee_of}
use Rattle.ranges.specs.States.{Abstract, start}
use Rattle.ranges.specs.After.{after_with}
use Rattle.ranges.specs.Passing.{edge_with, entry_state}
use Rattle.ranges.specs.Order.{IsState, StateUnder, Each, Holds, EdgeUnder}
use Rattle.std.specs.List.{fold, flat_map, range_with_len}
use Rattle.verifier.specs.declared.passing.Edge.{Edge}
use Rattle.verifier.specs.declared.passing.Edge.TheVariants as edge
use Rattle.verifier.specs.Tables.{state_at, Covers, CoversAll, AreStates, arriving, is_loose}
use Rattle.verifier.specs.Rounds.{receive, passed_by, round_of, IsSame}
use Rattle.verifier.specs.Sought.{IsSought}
use Rattle.verifier.specs.Visits.{Learns, HaveLearned, count_set}

-- where a state is passed besides the next slot: to the entry of a local function, or the target of a jump
abbrev pub either : Option ℕ → Option ℕ → Option ℕ
either None target = target
either (Some entry) target = Some entry

unfoldable pub target_of : ℕ → Instr → Option ℕ
target_of slot i = either (callee_of slot i) (edges_of slot i).target

-- where an edge of a slot leads
abbrev pub end_of : Edge → ℕ → Instr → Option ℕ
end_of edge.Next slot i = (edges_of slot i).next
end_of edge.Target slot i = target_of slot i

-- the state that is passed along an edge; `loose` says whether a rule is broken there that guards lift
unfoldable pub along_with : Edge → Bool → ℕ → Abstract → Instr → Option Abstract
along_with edge.Next loose sectors s (instr.Branch w c dst from distance) = edge_with loose s (instr.Branch w c dst from distance) false
along_with edge.Next loose sectors s i = after_with loose sectors s i
along_with edge.Target loose sectors s (instr.CallLocal distance) = Some (entry_state s)
along_with edge.Target loose sectors s i = edge_with loose s i true

abbrev pub state_along : Edge → Bool → ℕ → Abstract → Instr → Option Abstract
state_along e guards sectors s i = along_with e (is_loose guards s i) sectors s i

-- what arrives along an edge, if there is one and something is passed
abbrev pub along : List Bool → Option ℕ → Option Abstract → Option (ℕ × Abstract)
along heads None m = None
along heads (Some slot) m = option_map (λ s. (slot, arriving heads slot s)) m

-- what arrives are states, at slots of the table
abbrev pub Arrive : ℕ → List (ℕ × Abstract) → Type 0
Arrive n arrivals = Each (λ p. (p.0 < n) × IsState p.1) arrivals

-- what holds of each table of the rounds, for n slots
pub record IsRound (n : ℕ) (table : List (Option Abstract)) : Type 0 where
  pub long : length table ≡ n
  pub states : AreStates table
  pub starts : Covers (state_at table 0) start

-- From one table to another these states arrived. The mark tells whether some of them was not
-- contained in what was known.
pub record Arrived (old : List (Option Abstract)) (arrivals : List (ℕ × Abstract)) (new : List (Option Abstract)) (more : Bool) : Type 0 where
  pub table : new ≡ fold receive old arrivals
  pub left_out : more ≡ true → CoversAll old arrivals → ⊥
  pub same : more ≡ false → new ≡ old
  pub covered : more ≡ false → CoversAll old arrivals

-- what a slot passes on that is marked; nothing, where it isn't
abbrev pub passed_if : Bool → List (Option Instr) → ℕ → List (Option Abstract) → List Bool → ℕ → List (ℕ × Abstract)
passed_if guards program sectors table marks slot = if get_or marks slot false then passed_by guards program sectors table slot else []

-- what the marked slots pass on
unfoldable pub passed_again : Bool → List (Option Instr) → ℕ → List (Option Abstract) → List Bool → List (ℕ × Abstract)
passed_again guards program sectors table marks = flat_map (passed_if guards program sectors table marks) (range_with_len 0 (length program))

-- What a slot without a mark passes on is contained where it arrives, so it need not be passed on.
pub record IsMarked (guards : Bool) (program : List (Option Instr)) (sectors : ℕ) (table : List (Option Abstract)) (marks : List Bool) : Type 0 where
  pub long : length marks ≡ length program
  pub rest : (slot : ℕ) → get_or marks slot false ≡ false → CoversAll table (passed_by guards program sectors table slot)

-- From one table with marks to another: a slot without a mark had none, and knows what it knew; one with a mark had
-- one, or learned something. What was contained in what a slot knew still is.
pub record Kept (old : List (Option Abstract)) (before : List Bool) (new : List (Option Abstract)) (after : List Bool) : Type 0 where
  pub long : length after ≡ length before
  pub unmarked : (slot : ℕ) → get_or after slot false ≡ false → get_or before slot false ≡ false
  pub same : (slot : ℕ) → get_or after slot false ≡ false → state_at new slot ≡ state_at old slot
  pub learned : (slot : ℕ) → get_or after slot false ≡ true → (get_or before slot false ≡ true) ⊎ Learns (state_at old slot) (state_at new slot)
  pub known : AreStates old
  pub knows : AreStates new
  pub grows : (slot : ℕ) (x : Abstract) → IsState x → Covers (state_at old slot) x → Covers (state_at new slot) x

-- what a round makes of a table, with the marks for the next, and whether it changes it
pub record MadeRound (guards : Bool) (program : List (Option Instr)) (sectors : ℕ) (old : List (Option Abstract)) (new : List (Option Abstract)) (after : List Bool) (changed : Bool) : Type 0 where
  pub table : new ≡ round_of guards program sectors old
  pub marks : IsMarked guards program sectors new after
  pub changes : changed ≡ true → IsSame guards program sectors old → ⊥
  pub same : changed ≡ false → IsSame guards program sectors old
  pub learned : HaveLearned old new (count_set after)

-- From one table of the search to another.
pub record StaysSought (guards : Bool) (program : List (Option Instr)) (sectors : ℕ) (old : List (Option Abstract)) (new : List (Option Abstract)) : Type 0 where
  pub long : length new ≡ length old
  pub sought : IsSought guards program sectors old → IsSought guards program sectors new

-- a state that another one tells something: it stays under each state under which it was, if that one is under it too
pub record LearnsFrom (old : Abstract) (other : Abstract) (new : Abstract) : Type 0 where
  pub under : (g : Abstract) → IsState g → StateUnder old g → StateUnder other g → StateUnder new g

-- the same of what is known at a slot: a state, or none, to which all tells something
pub record LearnsAt (old : Option Abstract) (other : Abstract) (new : Option Abstract) : Type 0 where
  pub under : (m : Option Abstract) → Holds IsState m → EdgeUnder old m → EdgeUnder (Some other) m → EdgeUnder new m
