-- A crash image in words (docs/OUTPUT.md, The text of `show`).
use Rattle.std.specs.Prelude.{ℕ, Bool, List, ◌++◌, codes, length}
use Rattle.std.specs.List.{flat_map}
use Rattle.std.specs.Fmt.{decimal}
use Rattle.epochs.specs.declared.part.By.{By}
use Rattle.epochs.specs.declared.part.By.TheVariants as by
use Rattle.epochs.specs.Units.{epoch_at, marks_at}
use Rattle.epochs.specs.Plan.{PlanValue}
use Rattle.choices.specs.Choices.{ChoiceValue}
use Rattle.report.specs.ChoiceText.{departures_text}
use Rattle.report.specs.Text.{yes_or_no, cuts_word}
use Rattle.report.specs.Words.{cuts_words}
use Rattle.crash_text.specs.declared.cut.ToldKind.TheVariants as told
use Rattle.crash_text.specs.Cut.{departed_line, volatile_text, last_text, before_text}
use Rattle.crash_text.specs.Sectors.{difference_text}

abbrev pub by_word : By → List ℕ
by_word by.Sector = codes "sector"
by_word by.Write = codes "write"

-- what images are numbered by: the device, the log and the options
unfoldable pub numbered_text : PlanValue → List ℕ
numbered_text plan = codes "sectors " ++ decimal plan.log.sectors ++ codes " entries " ++ decimal (length plan.log.entries) ++ codes " cuts " ++ cuts_word plan.kind.kind

unfoldable pub chosen_text : PlanValue → ℕ → Bool → List ℕ
chosen_text plan bound tears = codes " bound " ++ decimal bound ++ codes " tears " ++ yes_or_no tears ++ codes " by " ++ by_word plan.by ++ cuts_words plan.kind ++ codes "\n"

-- the cut of an image and its choice
unfoldable pub cut_text : PlanValue → ℕ → List ℕ
cut_text plan cut = codes "cut " ++ decimal cut ++ codes " epoch " ++ decimal (epoch_at plan.log.entries cut) ++ codes " marks " ++ decimal (marks_at plan.log.entries cut)

abbrev pub choice_line : PlanValue → ChoiceValue → List ℕ
choice_line plan choice = cut_text plan choice.cut ++ codes " choice " ++ departures_text plan.by choice.departures ++ codes "\n"

unfoldable pub departed_text : ChoiceValue → List ℕ
departed_text choice = flat_map departed_line choice.departures

-- what a choice says
unfoldable pub choice_shown : PlanValue → ChoiceValue → List ℕ
choice_shown plan choice = choice_line plan choice ++ departed_text choice

-- what stands at its cut
unfoldable pub cut_shown : PlanValue → ℕ → List ℕ
cut_shown plan cut = volatile_text plan cut ++ before_text plan.log.entries cut ++ last_text told.Flush plan.log.entries cut ++ last_text told.Mark plan.log.entries cut

-- an image in words: what it is numbered by, its choice, its cut, and what in it differs from the image of the cut where
-- nothing departs
unfoldable pub shown_text : PlanValue → ℕ → Bool → ChoiceValue → List (List ℕ) → List (List ℕ) → List ℕ
shown_text plan bound tears choice whole image =
    numbered_text plan ++ chosen_text plan bound tears ++ choice_shown plan choice ++ cut_shown plan choice.cut ++ difference_text whole image
