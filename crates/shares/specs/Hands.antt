-- The hands of the workers, as contracts see them, and what a take is.
use Rattle.std.specs.Prelude.{◌≡◌, ℕ, ◌+◌, ◌<◌, ◌≤◌, ◌⊎◌, Bool, true, false, ◌||◌, List, [], ◌∷◌, ◌++◌, length, map, take, drop, slice_get, Some, All}
use Rattle.shares.specs.declared.view.SeatStep.{SeatStep}
use Rattle.shares.specs.declared.deque.Phase.{Phase}
use Rattle.shares.specs.declared.deque.Phase.TheVariants.{Open, Closing, Closed, Refused}
use Rattle.shares.specs.Steps.{posts, total}
use Rattle.shares.specs.Seats.{SeatValue, taken_blocks, times}
use Rattle.shares.specs.Deques.{DequeName}

-- which deque a hand has, how many parts its port has, and from which other deques it steals, in order
pub record HandPlace : Type 0 where
  pub deque : DequeName
  pub parts : ℕ
  pub others : List DequeName

abbrev pub hand_place : DequeName → ℕ → List DequeName → HandPlace
hand_place deque parts others = record { deque = deque; parts = parts; others = others }

-- a hand: its place among the hands, its own list, the blocks that it pushed on its deque, in order, and those that it popped or
-- stole; how far it has come, and how many blocks it kept and didn't take back
pub record HandValue : Type 0 where
  pub place : HandPlace
  pub list : List ℕ
  pub pushed : List ℕ
  pub got : List ℕ
  pub phase : Phase
  pub kept : ℕ

abbrev pub hand_value : HandPlace → List ℕ → List ℕ → List ℕ → Phase → ℕ → HandValue
hand_value place list pushed got phase kept = record { place = place; list = list; pushed = pushed; got = got; phase = phase; kept = kept }

-- the hand in that phase
abbrev pub in_phase : HandValue → Phase → HandValue
in_phase hand phase = hand_value hand.place hand.list hand.pushed hand.got phase hand.kept

-- a hand that holds no block and has moved none
abbrev pub IsEmptyHand : HandValue → Type 0
IsEmptyHand hand = hand ≡ hand_value hand.place [] [] [] Open 0

-- a hand that is closed, and holds no block itself
abbrev pub IsShut : HandValue → Type 0
IsShut hand = (hand.phase ≡ Closed) × (hand.list ≡ [])

-- a hand that wasn't asked to close
abbrev pub is_open : Phase → Bool
is_open Open = true
is_open Closing = false
is_open Closed = false
is_open Refused = false

-- a hand to which the push of a closing mark was refused
abbrev pub is_refused : Phase → Bool
is_refused Open = false
is_refused Closing = false
is_refused Closed = false
is_refused Refused = true

abbrev pub some_refused : List HandValue → Bool
some_refused [] = false
some_refused (hand ∷ hands) = is_refused hand.phase || some_refused hands

-- what the phase of a hand says of the marks that its owner pushed on its deque, and got there
abbrev pub FitsMarks : ℕ → ℕ → ℕ → Phase → Type 0
FitsMarks workers marks_pushed marks_got Open = (marks_pushed ≡ 0) × (marks_got ≡ 0)
FitsMarks workers marks_pushed marks_got Closing = (workers ≤ marks_pushed) × (marks_got ≡ 0)
FitsMarks workers marks_pushed marks_got Closed = 0 < marks_got
FitsMarks workers marks_pushed marks_got Refused = Unit {0}

-- the deques from which the hand of that number steals: those after its own first
abbrev pub others_at : List DequeName → ℕ → List DequeName
others_at names i = drop (i + 1) names ++ take i names

-- for each of those deques, by number, the others
abbrev pub AreOthers : List DequeName → List (List DequeName) → Type 0
AreOthers names others = (i : ℕ) (own : List DequeName) → slice_get others i ≡ Some own → own ≡ others_at names i

-- the places of all hands of that many workers, by number: each has one part of its own deque and one of each other
pub record AreTogether (workers : ℕ) (places : List HandPlace) : Type 0 where
  pub count : length places ≡ workers
  pub one_part : All (λ (p : HandPlace). p.parts ≡ 1) places
  pub others : AreOthers (map (λ (p : HandPlace). p.deque) places) (map (λ (p : HandPlace). p.others) places)

-- what hands pushed and have in their lists is what they popped or stole, and what is left, each as often
pub record AreLeft (hands : List HandValue) (left : List ℕ) : Type 0 where
  pub together : (x : ℕ) → total (λ (h : HandValue). times x h.pushed) hands + total (λ (h : HandValue). times x h.list) hands
      ≡ total (λ (h : HandValue). times x h.got) hands + times x left

-- the second list has those blocks more, each as often
abbrev pub HasMore : List ℕ → List ℕ → List ℕ → Type 0
HasMore before more after = (x : ℕ) → times x after ≡ times x before + times x more

-- the steps that came to the first ones, none of which posts an image
pub record PostsNothing (before after : List SeatStep) : Type 0 where
  pub made : List SeatStep
  pub steps : after ≡ before ++ made
  pub silent : (image : ℕ) → posts image made ≡ 0

-- a block of its own that a hand gives: it stood first in its list, or was popped
abbrev pub GivesOwn : HandValue → ℕ → HandValue → Type 0
GivesOwn before block after =
    (after.pushed ≡ before.pushed)
    × (((before.list ≡ block ∷ after.list) × (after.got ≡ before.got)) ⊎ ((after.list ≡ before.list) × HasMore before.got (block ∷ []) after.got))

-- a block that a hand keeps: it is pushed on its deque, or put into its list
abbrev pub KeepsBlock : HandValue → ℕ → HandValue → Type 0
KeepsBlock before block after =
    (after.got ≡ before.got)
    × (((after.pushed ≡ before.pushed ++ block ∷ []) × (after.list ≡ before.list)) ⊎ ((after.pushed ≡ before.pushed) × (after.list ≡ before.list ++ block ∷ [])))

-- a hand keeps the blocks that its seat drew, at most that many
pub record IsStocked (most : ℕ) (before : HandValue) (seat : SeatValue) (after : HandValue) (seat_after : SeatValue) : Type 0 where
  pub drawn : List ℕ
  pub pushed : List ℕ
  pub draws : taken_blocks seat_after ≡ taken_blocks seat ++ drawn
  pub few : length drawn ≤ most
  pub pushes : after.pushed ≡ before.pushed ++ pushed
  pub gets : after.got ≡ before.got
  pub together : (x : ℕ) → times x before.list + times x drawn ≡ times x pushed + times x after.list
  pub quiet : PostsNothing seat.steps seat_after.steps

-- what a take of a hand with its seat at the board is: the list before, the blocks that the seat drew, and the block that the hand
-- popped or stole, if any, are together, each as often, the answer, what it pushed, and the list after
pub record IsTake (before : HandValue) (seat : SeatValue) (answer : List ℕ) (after : HandValue) (seat_after : SeatValue) : Type 0 where
  pub drawn : List ℕ
  pub pushed : List ℕ
  pub got : List ℕ
  pub draws : taken_blocks seat_after ≡ taken_blocks seat ++ drawn
  pub few : length drawn ≤ 4
  pub pushes : after.pushed ≡ before.pushed ++ pushed
  pub gets : HasMore before.got got after.got
  -- a block that was popped or stolen is the answer
  pub given : (got ≡ []) ⊎ (got ≡ answer)
  pub together : (x : ℕ) → times x before.list + times x drawn + times x got ≡ times x answer + times x pushed + times x after.list
  pub quiet : PostsNothing seat.steps seat_after.steps
