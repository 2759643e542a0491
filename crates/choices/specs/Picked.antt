-- A choice by the numbers of its departures, as an element of the ranked choices of a plan.
use Rattle.std.specs.Prelude.{ℕ, ◌≡◌, ◌==◌, ◌+◌, ◌*◌, ◌/◌, ◌%◌, ◌<◌, ◌⊎◌, Bool, true, false, List, [], ◌∷◌, ◌++◌, slice_get, Some}
use Rattle.std.specs.List.{list_any}
use Rattle.epochs.specs.Plan.{PlanValue}
use Rattle.choices.specs.declared.pick.Pick.{Pick}
use Rattle.choices.specs.Choices.{ChoiceValue, choice_of, ranked_choices}

pub record PickedValue : Type 0 where
  pub place : ℕ
  pub cut : ℕ
  pub picks : List Pick

-- the numbers of a choice
abbrev pub picked_of : ChoiceValue → PickedValue
picked_of c = record { place = c.place; cut = c.cut; picks = c.picks }

-- the choice of these numbers
abbrev pub choice_of_picked : PlanValue → PickedValue → ChoiceValue
choice_of_picked plan p = choice_of plan.by plan.log.entries p.place p.cut p.picks

-- it is choice n of the plan
abbrev pub IsRanked : PlanValue → ℕ → Bool → ℕ → PickedValue → Type 0
IsRanked plan bound tears n p = slice_get (ranked_choices plan bound tears) n ≡ Some (choice_of_picked plan p)

-- those of some picks that are marked
abbrev pub marked_picks : List Bool → List Pick → List Pick
marked_picks [] picks = []
marked_picks (b ∷ marks) [] = []
marked_picks (true ∷ marks) (pick ∷ picks) = pick ∷ marked_picks marks picks
marked_picks (false ∷ marks) (pick ∷ picks) = marked_picks marks picks

-- single departures stand first by part and then by fate, of which there are m: the one of that number
abbrev pub single : ℕ → ℕ → Pick
single m number = record { part = number / m; fate = number % m }

-- and the one that is that many after another
abbrev pub pick_after : ℕ → ℕ → Pick → Pick
pick_after m count pick = single m (pick.part * m + pick.fate + count)

-- the same choice with another last departure
abbrev pub with_last : PickedValue → List Pick → Pick → PickedValue
with_last p front last = record p { picks = front ++ last ∷ [] }

-- the last departure of a choice can go on so often by itself, among v parts by m fates
pub record CanPass (m v count : ℕ) (front : List Pick) (last : Pick) (picks : List Pick) : Type 0 where
  pub is : picks ≡ front ++ last ∷ []
  pub room : last.part * m + last.fate + count < v * m

-- a choice has all departures of another, and beside them none of a part that is told
pub record Extends (own : List Pick) (told : List ℕ) (picks : List Pick) : Type 0 where
  pub has : (i : ℕ) (x : Pick) → slice_get own i ≡ Some x → (j : ℕ) × (slice_get picks j ≡ Some x)
  pub others : (i : ℕ) (x : Pick) → slice_get picks i ≡ Some x
      → ((j : ℕ) × (slice_get own j ≡ Some x)) ⊎ (list_any (λ (part : ℕ). part == x.part) told ≡ false)
