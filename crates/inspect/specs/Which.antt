-- Which image is meant (docs/COMMANDS.md, Commands): by its number, or by its cut and its choice as the report prints it.
use Rattle.std.specs.Prelude.{ℕ, ◌≡◌, ◌≤◌, Bool, List, Some, None, length, slice_get}
use Rattle.logfmt.specs.Bounds.{IsLog}
use Rattle.epochs.specs.declared.part.By.{By}
use Rattle.epochs.specs.Plan.{PlanValue}
use Rattle.choices.specs.declared.choice.Departure.{Departure}
use Rattle.choices.specs.Choices.{ChoiceValue, ranked_choices}
use Rattle.report.specs.LineText.{choice_text}
use Rattle.report.specs.ChoiceText.{departures_text}
use Rattle.request.specs.declared.settings.OptionPlace.{OptionPlace}
use Rattle.request.specs.declared.settings.OptionPlace.TheVariants as place
use Rattle.request.specs.declared.command.Which.{Which}
use Rattle.request.specs.declared.command.Which.TheVariants as which

-- a choice of the plan at that cut, for which the report prints that text
pub record IsPrinted (plan : PlanValue) (bound : ℕ) (tears : Bool) (cut : ℕ) (text : List ℕ) (choice : ChoiceValue) : Type 0 where
  pub number : ℕ
  pub there : slice_get (ranked_choices plan bound tears) number ≡ Some choice
  pub at : choice.cut ≡ cut
  pub printed : text ≡ choice_text plan.by choice.departures

-- the choice of the plan that is meant; a text of more than 96 bytes, which no choice has, means none
abbrev pub IsMeant : PlanValue → ℕ → Bool → Which → ChoiceValue → Type 0
IsMeant plan bound tears (which.Number n) choice = slice_get (ranked_choices plan bound tears) n ≡ Some choice
IsMeant plan bound tears (which.Printed cut None) choice = ⊥
IsMeant plan bound tears (which.Printed cut (Some text)) choice = IsPrinted plan bound tears cut text.bytes choice

-- a choice is so, and no other
pub record IsOnly (IsSo : ChoiceValue → Type 0) (choice : ChoiceValue) : Type 0 where
  pub is : IsSo choice
  pub only : (other : ChoiceValue) → IsSo other → other ≡ choice

-- no choice is so
pub record NoneIs (IsSo : ChoiceValue → Type 0) : Type 0 where
  pub none : (choice : ChoiceValue) → IsSo choice → ⊥

-- what a refusal names
abbrev pub which_place : Which → OptionPlace
which_place (which.Number n) = place.Image
which_place (which.Printed cut text) = place.Choice

-- what the report prints of departures is what `show` prints, and what a choice is read from
abbrev pub PrintsChoices : Type 0
PrintsChoices = (way : By) (ds : List Departure) → choice_text way ds ≡ departures_text way ds

-- no choice of a plan has a text of more than 96 bytes
abbrev pub ChoicesAreShort : Type 0
ChoicesAreShort =
    (plan : PlanValue) (bound : ℕ) (tears : Bool) (n : ℕ) (choice : ChoiceValue) → IsLog plan.log → bound ≤ 3
    → slice_get (ranked_choices plan bound tears) n ≡ Some choice → length (choice_text plan.by choice.departures) ≤ 96
