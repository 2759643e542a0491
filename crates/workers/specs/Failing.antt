-- The failing lines of a run: each image with each checker that does not answer 0 there (docs/OUTPUT.md,
-- The report; docs/CRASH-MODEL.md, Order and numbers of the images).
use Rattle.std.specs.Prelude.{ℕ, ◌+◌, ◌-◌, ◌*◌, min, Bool, if◌then◌else◌, List, length, Option, None, Some, slice_get}
use Rattle.std.specs.Option.{option_and_then}
use Rattle.std.specs.List.{filter_map, flat_map, range_with_len}
use Rattle.epochs.specs.declared.part.By.{By}
use Rattle.epochs.specs.Plan.{PlanValue}
use Rattle.choices.specs.Choices.{ChoiceValue, ranked_choices}
use Rattle.machine.specs.Outcome.{Ending, fails}
use Rattle.checker.specs.Checker.{CheckerValue, judgement}
use Rattle.images.specs.Views.{view_of, sectors_of, context_at}
use Rattle.report.specs.Line.{FailingLine}

-- what is judged: images of a plan with at most `bound` departures, torn writes or none, by checkers. They are those from one on to
-- before another; the whole run is from 0 to the number of its images. And whether the first failing image is all that is asked for.
pub record Subject : Type 0 where
  pub plan : PlanValue
  pub checkers : List CheckerValue
  pub bound : ℕ
  pub tears : Bool
  pub from : ℕ
  pub to : ℕ
  pub first : Bool

-- the choices of which the images are: image n is that of choice n
abbrev pub choices_of : Subject → List ChoiceValue
choices_of s = ranked_choices s.plan s.bound s.tears

-- how many images the run has
abbrev pub image_count : Subject → ℕ
image_count s = length (choices_of s)

-- how many of them are judged
abbrev pub judged_count : Subject → ℕ
judged_count s = s.to - s.from

-- what a checker ends in on the image of a choice
unfoldable pub ending_at : Subject → ChoiceValue → CheckerValue → Ending
ending_at s choice checker =
    judgement checker (sectors_of (view_of s.plan choice)) (context_at s.plan.log choice.cut)

-- the line of an image and a checker, if it fails there, with what departs as one
abbrev pub line_if : By → ℕ → ChoiceValue → ℕ → Ending → Option FailingLine
line_if way image choice program ending =
    if fails ending
    then Some (record { image = image; cut = choice.cut; program = program; ending = ending; by = way; departures = choice.departures })
    else None

abbrev pub line_at : Subject → ℕ → ChoiceValue → ℕ → Option FailingLine
line_at s image choice program =
    option_and_then (λ checker. line_if s.plan.by image choice program (ending_at s choice checker)) (slice_get s.checkers program)

unfoldable pub line_of : Subject → ℕ → ℕ → Option FailingLine
line_of s image program = option_and_then (λ choice. line_at s image choice program) (slice_get (choices_of s) image)

-- the lines of an image, by checker
unfoldable pub image_lines : Subject → ℕ → List FailingLine
image_lines s image = filter_map (line_of s image) (range_with_len 0 (length s.checkers))

-- the lines of n images from a on, by image
abbrev pub lines_from : Subject → ℕ → ℕ → List FailingLine
lines_from s a n = flat_map (image_lines s) (range_with_len a n)

-- all failing lines of the images that are judged
unfoldable pub failing_lines : Subject → List FailingLine
failing_lines s = lines_from s s.from (s.to - s.from)

-- the lines of a block: of 64 images in a row, or of those that are left
unfoldable pub part : Subject → ℕ → List FailingLine
part s block = lines_from s (s.from + 64 * block) (min 64 (judged_count s - 64 * block))
