-- How hands meet, and how they are taken apart when they are back.
use Rattle.std.specs.Prelude.{◌≡◌, ℕ, zero, suc, ◌+◌, ◌-◌, ◌<◌, ◌≤◌, List, [], ◌∷◌, ◌++◌, length, map, flat_map, take, slice_get, Some, All}
use Rattle.std.specs.List.{range_with_len}
use Rattle.shares.specs.Steps.{total}
use Rattle.shares.specs.Seats.{times}
use Rattle.shares.specs.Deques.{DequeName, port}
use Rattle.shares.specs.Owned.{DequeValue, OtherValue, deque_value, other_value}
use Rattle.shares.specs.declared.deque.Phase.TheVariants.{Open}
use Rattle.shares.specs.Hands.{HandValue, IsShut, hand_place, hand_value, others_at}

-- an empty deque of which the owner has that many parts
abbrev pub empty_deque : ℕ → DequeName → DequeValue
empty_deque parts name = deque_value name (port parts [] [] 0 0)

-- a stealer that got nothing yet
abbrev pub new_other : DequeName → OtherValue
new_other name = other_value name [] 0

-- a deque that has given a part away
abbrev pub with_less : DequeValue → DequeValue
with_less d = deque_value d.name (port (d.parts - 1) d.pushed d.got d.marks_pushed d.marks_got)

-- the stealers of the last that many hands, those of the last one first
abbrev pub stealer_lists : List DequeName → ℕ → List (List OtherValue)
stealer_lists names count = map (λ i. map new_other (others_at names (length names - 1 - i))) (range_with_len 0 count)

-- a deque that has taken a stealer back
abbrev pub with_back : DequeValue → OtherValue → DequeValue
with_back d o = deque_value d.name (port (d.parts + 1) d.pushed (d.got ++ o.got) d.marks_pushed (d.marks_got + o.marks_got))

-- the deques, each with one of the stealers, as far as both go
abbrev pub deques_with : List DequeValue → List OtherValue → List DequeValue
deques_with [] os = []
deques_with (d ∷ ds) [] = []
deques_with (d ∷ ds) (o ∷ os) = with_back d o ∷ deques_with ds os

-- what stealers got
abbrev pub all_got : List OtherValue → List ℕ
all_got os = flat_map (λ (o : OtherValue). o.got) os

-- 1 where the owner of a deque got no mark
abbrev pub unmarked_one : ℕ → ℕ
unmarked_one zero = 1
unmarked_one (suc marks) = 0

-- how many deques there are whose owner got no mark
abbrev pub unmarked_count : List DequeValue → ℕ
unmarked_count deques = total (λ (d : DequeValue). unmarked_one d.marks_got) deques

-- the hands so far: each has its deque by one part, and steals from all others
pub record AreMet (names : List DequeName) (hands : List HandValue) : Type 0 where
  pub deques : map (λ (h : HandValue). h.place.deque) hands ≡ take (length hands) names
  pub each : (i : ℕ) (h : HandValue) → slice_get hands i ≡ Some h → h ≡ hand_value (hand_place h.place.deque 1 (others_at names i)) [] [] [] Open 0

-- hands taken apart: what their lists held, their deques, and their stealers
pub record AreApart (hands : List HandValue) (left : List ℕ) (deques : List DequeValue) (others : List (List OtherValue)) : Type 0 where
  pub names : map (λ (d : DequeValue). d.name) deques ≡ map (λ (h : HandValue). h.place.deque) hands
  pub parts : map (λ (d : DequeValue). d.parts) deques ≡ map (λ (h : HandValue). h.place.parts) hands
  pub others_are : map (map (λ (o : OtherValue). o.name)) others ≡ map (λ (h : HandValue). h.place.others) hands
  pub lists : (x : ℕ) → times x left ≡ total (λ (h : HandValue). times x h.list) hands
  pub pushed : (x : ℕ) → total (λ (d : DequeValue). times x d.pushed) deques ≡ total (λ (h : HandValue). times x h.pushed) hands
  pub got : (x : ℕ) → total (λ (d : DequeValue). times x d.got) deques + total (λ (os : List OtherValue). times x (all_got os)) others
      ≡ total (λ (h : HandValue). times x h.got) hands
  pub closed : All IsShut hands → (left ≡ []) × (unmarked_count deques ≡ 0)

-- deques that have all their stealers back, and know what these got
pub record AreWhole (workers : ℕ) (before : List DequeValue) (others : List (List OtherValue)) (after : List DequeValue) : Type 0 where
  pub parts : All (λ (d : DequeValue). d.parts ≡ workers) after
  pub pushed : (x : ℕ) → total (λ (d : DequeValue). times x d.pushed) after ≡ total (λ (d : DequeValue). times x d.pushed) before
  pub got : (x : ℕ) → total (λ (d : DequeValue). times x d.got) after
      ≡ total (λ (d : DequeValue). times x d.got) before + total (λ (os : List OtherValue). times x (all_got os)) others
  pub closed : unmarked_count after ≤ unmarked_count before

-- what deques pushed and did not get is after the list now
pub record AddsAllLeft (blocks : ℕ) (deques : List DequeValue) (before after : List ℕ) : Type 0 where
  pub left : List ℕ
  pub beyond : after ≡ before ++ left
  pub together : (x : ℕ) → total (λ (d : DequeValue). times x d.pushed) deques ≡ total (λ (d : DequeValue). times x d.got) deques + times x left
  pub below : All (λ (x : ℕ). x < blocks) left
  pub closed : unmarked_count deques ≡ 0 → left ≡ []
