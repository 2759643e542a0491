-- What little changes goes along an edge, part by part. Only this crate's own contracts cite it.
use Rattle.std.specs.Prelude.{◌≡◌, ◌<◌, ℕ, Bool, if◌then◌else◌, List, [], ◌∷◌, length, Option, None, Some, slice_index_or}
use Rattle.ranges.specs.Kinds.{Kind}
use Rattle.ranges.specs.Groups.{GroupKind, Marked}
use Rattle.ranges.specs.States.{Abstract, round_state}
use Rattle.ranges.specs.Order.{IsState}
use Rattle.ranges.specs.Reading.{value}
use Rattle.ranges.specs.Changing.{after_change, left_of}
use Rattle.ranges.specs.declared.change.Change.{Change}
use Rattle.ranges.specs.declared.change.Effect.{Effect}
use Rattle.ranges.specs.declared.change.Effect.TheVariants.{Changed, Nothing}
use Rattle.verifier.specs.declared.way.Way.{Way}
use Rattle.verifier.specs.Tables.{state_at}
use Rattle.verifier.specs.Sought.{TakesIn}
use Rattle.verifier.specs.Passing.{LearnsFrom, LearnsAt}

-- a state as it arrives by a way: changed, and rounded where it arrives at a head
abbrev pub passed_along : Way → Abstract → Abstract
passed_along way s = if way.is_head then round_state (after_change s way.change) else after_change s way.change

-- a change leaves a group of the stack as it was
abbrev pub LeavesGroup : Change → ℕ → Type 0
LeavesGroup change n = (s : Abstract) → n < length s.groups → slice_index_or s.groups n (Marked []) ≡ slice_index_or (after_change s change).groups n (Marked [])

-- a way leads to another slot of the table
pub record Goes (way : Way) (n : ℕ) : Type 0 where
  pub apart : way.from ≡ way.to → ⊥
  pub inside : way.to < n

-- From one table to another a way's state, or a part of it, arrived.
pub record LearnsAlong (way : Way) (old : List (Option Abstract)) (new : List (Option Abstract)) : Type 0 where
  pub long : length new ≡ length old
  pub same : state_at new way.from ≡ state_at old way.from
  pub takes : (s : Abstract) → state_at old way.from ≡ Some s → IsState (passed_along way s) → TakesIn old ((way.to, passed_along way s) ∷ []) new

-- a register tells a state something, whatever else is passed with it
pub record TellsValue (old : Abstract) (n : ℕ) (k : Kind) (new : Abstract) : Type 0 where
  pub tells : (x : Abstract) → IsState x → k ≡ value x n → LearnsFrom old x new

-- the same of a group of the stack
pub record TellsGroup (old : Abstract) (n : ℕ) (k : GroupKind) (new : Abstract) : Type 0 where
  pub tells : (x : Abstract) → IsState x → k ≡ slice_index_or x.groups n (Marked []) → LearnsFrom old x new

-- the same of what is known at a slot
pub record TellsValueAt (old : Option Abstract) (n : ℕ) (k : Kind) (new : Option Abstract) : Type 0 where
  pub tells : (x : Abstract) → IsState x → k ≡ value x n → LearnsAt old x new

pub record TellsGroupAt (old : Option Abstract) (n : ℕ) (k : GroupKind) (new : Option Abstract) : Type 0 where
  pub tells : (x : Abstract) → IsState x → k ≡ slice_index_or x.groups n (Marked []) → LearnsAt old x new

-- a way of an effect by which little changes
pub record IsWay (slot : ℕ) (target : ℕ) (at_head : Bool) (made : Effect) (n : ℕ) (way : Way) : Type 0 where
  pub begins : way.from ≡ slot
  pub ends : way.to ≡ target
  pub rounds : way.is_head ≡ at_head
  pub changes : made ≡ Changed way.change
  pub goes : Goes way n

-- an effect on what is known at a slot says what is left of it, and nothing is where nothing is known
abbrev pub LeavesAt : Option Abstract → Effect → (Abstract → Option Abstract) → Type 0
LeavesAt None effect f = effect ≡ Nothing
LeavesAt (Some s) effect f = left_of s effect ≡ f s
