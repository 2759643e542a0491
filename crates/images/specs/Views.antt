-- What a view shows: the crash image of a log at a cut with some departures, and its context
-- (docs/CRASH-MODEL.md, Crash image, Context of an image).
use Rattle.std.specs.Prelude.{ℕ, ◌≡◌, ◌≤◌, Bool, List, slice_get, Some}
use Rattle.logfmt.specs.Bounds.{LogValue}
use Rattle.epochs.specs.Units.{epoch_at, marks_at}
use Rattle.epochs.specs.Plan.{PlanValue}
use Rattle.choices.specs.declared.choice.Departure.{Departure}
use Rattle.choices.specs.Choices.{ChoiceValue, ranked_choices}
use Rattle.helpers.specs.declared.device.Context.{Context}
use Rattle.images.specs.Images.{crash_image}

-- an image: the log, the cut and the departures
pub record ViewValue : Type 0 where
  pub log : LogValue
  pub cut : ℕ
  pub departures : List Departure

-- the view of a plan's log at a choice
abbrev pub view_of : PlanValue → ChoiceValue → ViewValue
view_of plan choice = record { log = plan.log; cut = choice.cut; departures = choice.departures }

-- a choice of the plan, as it is numbered with some bound, with torn writes or without
pub record IsMember (plan : PlanValue) (choice : ChoiceValue) : Type 0 where
  pub bound : ℕ
  pub tears : Bool
  pub number : ℕ
  pub there : slice_get (ranked_choices plan bound tears) number ≡ Some choice

-- the sectors of a view
unfoldable pub sectors_of : ViewValue → List (List ℕ)
sectors_of view = crash_image view.log view.cut view.departures

-- the context of a cut
abbrev pub context_at : LogValue → ℕ → Context
context_at log cut = record { sectors = log.sectors; epoch = epoch_at log.entries cut; marks = marks_at log.entries cut }

-- the numbers of a context are small
pub record ContextFits (context : Context) : Type 0 where
  pub epoch : context.epoch ≤ 65536
  pub marks : context.marks ≤ 65536
