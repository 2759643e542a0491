-- What is known of an image and a checker, and images in a row.
use Rattle.std.specs.Prelude.{ℕ, ◌≡◌, ◌<◌, ◌≤◌, Option, None, Some}
use Rattle.choices.specs.Choices.{ChoiceValue}
use Rattle.choices.specs.Picked.{PickedValue, choice_of_picked, IsRanked}
use Rattle.checker.specs.Checker.{CheckerValue}
use Rattle.interp.specs.declared.outcome.Outcome.{Outcome}
use Rattle.interp.specs.Ending.{ending_of}
use Rattle.workers.specs.declared.judging.Finding.{Finding}
use Rattle.workers.specs.declared.judging.Finding.TheVariants.{Good, Ends, Open}
use Rattle.workers.specs.declared.look.Stop.{Stop}
use Rattle.workers.specs.declared.row.ImageRow.{ImageRow}
use Rattle.workers.specs.Failing.{Subject, image_count, ending_at, line_of}
use Rattle.workers.specs.Local.{AreGood, IsOutcome}

-- the checkers before one find the image of a choice good; what that one ends in there may be known
abbrev pub IsStop : Subject → PickedValue → Stop → Type 0
IsStop s p stop = ((i : ℕ) → i < stop.checker → AreGood s p 1 i) × IsOutcome s (choice_of_picked s.plan p) stop

-- what is known of a checker and an image is true
abbrev pub IsFinding : Subject → ℕ → ChoiceValue → ℕ → CheckerValue → Finding → Type 0
IsFinding s image choice number checker Good = line_of s image number ≡ None
IsFinding s image choice number checker (Ends outcome) = ending_of outcome ≡ ending_at s choice checker
IsFinding s image choice number checker Open = Unit {0}

-- by what it ends in, if that is known
abbrev pub finding_of : Option Outcome → Finding
finding_of None = Open
finding_of (Some outcome) = Ends outcome

-- images of a run, in a row, from that of a choice on
pub record IsRow (s : Subject) (row : ImageRow) : Type 0 where
  pub order : row.image ≤ row.end
  pub within : row.end ≤ image_count s
  pub member : row.image < image_count s → IsRanked s.plan s.bound s.tears row.image row.picked
