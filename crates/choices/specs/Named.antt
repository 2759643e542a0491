-- Choices by the names of their departures: the number of the entry, the place of the sector in it, and the fate, as a
-- reader of the report knows them (docs/OUTPUT.md, The report).
use Rattle.std.specs.Prelude.{ℕ, ◌≡◌, Bool, List, map, slice_get, Some}
use Rattle.epochs.specs.Plan.{PlanValue}
use Rattle.choices.specs.declared.choice.Departure.{Departure}
use Rattle.choices.specs.declared.name.Name.{Name}
use Rattle.choices.specs.Choices.{ChoiceValue, ranked_choices}

-- the name of a departure
abbrev pub name_of : Departure → Name
name_of d = record { entry = d.part.entry; place = d.part.place; fate = d.fate }

-- one of the plan's choices at that cut, whose departures have these names
pub record IsNamed (plan : PlanValue) (bound : ℕ) (tears : Bool) (cut : ℕ) (names : List Name) (choice : ChoiceValue) : Type 0 where
  pub number : ℕ
  pub there : slice_get (ranked_choices plan bound tears) number ≡ Some choice
  pub at : choice.cut ≡ cut
  pub named : map name_of choice.departures ≡ names

-- no choice of the plan is named so
pub record NoneIsNamed (plan : PlanValue) (bound : ℕ) (tears : Bool) (cut : ℕ) (names : List Name) : Type 0 where
  pub none : (choice : ChoiceValue) → IsNamed plan bound tears cut names choice → ⊥
