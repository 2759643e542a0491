-- The survey of the crash images of a log, cut by cut (docs/COMMANDS.md, Commands).
use Rattle.std.specs.Prelude.{ℕ, ◌≡◌, Bool, true, false, List, [], ◌++◌, length, codes, Option, Some, None}
use Rattle.std.specs.Fmt.{decimal}
use Rattle.std.specs.List.{flat_map}
use Rattle.base.specs.declared.refusal.Refusal.{Refusal}
use Rattle.base.specs.Refusals.{memory_refusal}
use Rattle.logfmt.specs.Bounds.{LogValue}
use Rattle.epochs.specs.Units.{epoch_at, marks_at}
use Rattle.epochs.specs.Parts.{volatile_parts}
use Rattle.epochs.specs.Cuts.{cuts_of}
use Rattle.epochs.specs.Plan.{PlanValue}
use Rattle.choices.specs.Choices.{ranked_choices, ranked_at}
use Rattle.request.specs.declared.settings.Settings.{Settings}
use Rattle.request.specs.declared.settings.OptionPlace.TheVariants as place
use Rattle.request.specs.Settings.{option_refusal}
use Rattle.request.specs.Source.{Recording, plan_of, images_of, HasImages, RefusesSource}
use Rattle.inspect.specs.Layout.{is_layout, layout_text}

-- the line of a cut, in two parts: where it stands, and what it leaves open
unfoldable pub cut_text : PlanValue → ℕ → List ℕ
cut_text plan cut =
    codes "cut " ++ decimal cut ++ codes " epoch " ++ decimal (epoch_at plan.log.entries cut) ++ codes " marks " ++ decimal (marks_at plan.log.entries cut)

unfoldable pub open_text : PlanValue → ℕ → Bool → ℕ → List ℕ
open_text plan bound tears cut =
    codes " volatile " ++ decimal (length (volatile_parts plan.by plan.log.entries cut)) ++ codes " images " ++ decimal (length (ranked_at plan bound tears cut)) ++ codes "\n"

abbrev pub cut_line : PlanValue → ℕ → Bool → ℕ → List ℕ
cut_line plan bound tears cut = cut_text plan cut ++ open_text plan bound tears cut

-- a line for each wanted cut, and the number of all images
unfoldable pub survey_text : PlanValue → ℕ → Bool → List ℕ
survey_text plan bound tears =
    flat_map (cut_line plan bound tears) (cuts_of plan.kind plan.log.entries) ++ codes "total " ++ decimal (length (ranked_choices plan bound tears)) ++ codes "\n"

-- how the run is laid out in parts, where that is asked for
abbrev pub parts_text : Option ℕ → ℕ → List ℕ
parts_text None images = []
parts_text (Some parts) images = layout_text images parts

-- the run can be laid out so
abbrev pub Fits : Option ℕ → ℕ → Type 0
Fits None images = Unit {0}
Fits (Some parts) images = is_layout images parts ≡ true

pub record IsSurvey (parts : Option ℕ) (text : Recording) (s : Settings) (bytes : List ℕ) : Type 0 where
  pub value : LogValue
  pub source : HasImages text s value
  pub fits : Fits parts (length (images_of s value))
  pub told : bytes ≡ survey_text (plan_of s value) s.bound s.tears ++ parts_text parts (length (images_of s value))

-- the refusals in their order: the log, then the number of its images, then that of the parts
pub data RefusesSurvey (parts : Option ℕ) (text : Recording) (s : Settings) : Refusal → Type 0 where
  for_source : (r : Refusal) → RefusesSource text s r → RefusesSurvey parts text s r
  for_parts : (value : LogValue) (count : ℕ) → HasImages text s value → parts ≡ Some count → is_layout (length (images_of s value)) count ≡ false
      → RefusesSurvey parts text s (option_refusal place.Parts)
  for_memory : (value : LogValue) → HasImages text s value → RefusesSurvey parts text s memory_refusal
