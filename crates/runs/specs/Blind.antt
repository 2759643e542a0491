-- Programs that pass without looking at what a log writes (docs/CRASH-MODEL.md, A checker that looks at nothing).
use Rattle.std.specs.Prelude.{ℕ, ◌≡◌, ◌+◌, ◌-◌, ◌*◌, ◌==◌, ◌≤◌, Bool, true, false, not, nat_le, nat_lt, ◌&&◌, ◌||◌, List, [], length, map, slice_get, Option, Some}
use Rattle.std.specs.List.{list_all}
use Rattle.std.specs.Option.{option_map_or}
use Rattle.logfmt.specs.declared.entry.Entry.{Entry}
use Rattle.logfmt.specs.Bounds.{LogValue, IsLog}
use Rattle.epochs.specs.Cuts.{cuts_of}
use Rattle.epochs.specs.Units.{epoch_at, marks_at}
use Rattle.epochs.specs.Plan.{PlanValue}
use Rattle.choices.specs.Choices.{ChoiceValue}
use Rattle.images.specs.Views.{ViewValue, sectors_of, context_at}
use Rattle.machine.specs.Outcome.{Ending, fails}
use Rattle.checker.specs.Checker.{CheckerValue, judgement}
use Rattle.checker.specs.Footprints.{kept_footprint}
use Rattle.report.specs.Line.{FailingLine}
use Rattle.workers.specs.Failing.{Subject, choices_of, ending_at, failing_lines}
use Rattle.request.specs.declared.settings.Settings.{Settings}
use Rattle.request.specs.Source.{Recording, HasImages, plan_of}
use Rattle.runs.specs.declared.explore_command.WantedAnswer.{WantedAnswer}
use Rattle.runs.specs.declared.explore_command.WantedAnswer.TheVariants as wanted
use Rattle.runs.specs.Explore.{AreCheckersOf}

-- an entry writes or discards a sector
abbrev pub covers : ℕ → Entry → Bool
covers sector e = nat_le e.sector sector && nat_lt sector (e.sector + e.count)

-- no entry of a log does
abbrev pub is_bare : List Entry → ℕ → Bool
is_bare es sector = list_all (λ (e : Entry). not (covers sector e)) es

-- the image of cut k in which nothing is lost or torn
abbrev pub whole_at : LogValue → ℕ → ViewValue
whole_at log cut = record { log = log; cut = cut; departures = [] }

-- what the checker ends in on an image, and the sectors at which it looks there, where they are at most 32
unfoldable pub ending_on : CheckerValue → ViewValue → Ending
ending_on checker view = judgement checker (sectors_of view) (context_at view.log view.cut)

unfoldable pub looks_on : CheckerValue → ViewValue → Option (List ℕ)
looks_on checker view = (kept_footprint 32 checker (sectors_of view) (context_at view.log view.cut)).sectors

-- on the image of cut k in which nothing is lost or torn the checker answers 0, and it looks at most at 32 sectors, at none that an
-- entry of the log writes or discards
unfoldable pub is_blind_at : CheckerValue → LogValue → ℕ → Bool
is_blind_at checker log cut =
    not (fails (ending_on checker (whole_at log cut))) && option_map_or (list_all (is_bare log.entries)) (looks_on checker (whole_at log cut)) false

-- so it does at each wanted cut, and there is one
unfoldable pub is_blind : PlanValue → CheckerValue → Bool
is_blind plan checker = not (length (cuts_of plan.kind plan.log.entries) == 0) && list_all (is_blind_at checker plan.log) (cuts_of plan.kind plan.log.entries)

-- how many flushes and marks stand before the last wanted cut
abbrev pub changes : PlanValue → ℕ
changes plan =
    let es = plan.log.entries in
    let cuts = cuts_of plan.kind es in
    option_map_or (λ cut. epoch_at es cut + marks_at es cut) (slice_get cuts (length cuts - 1)) 0

-- They are few: at most 1,024, or at most a sixteenth of the wanted cuts. Only there blind programs are looked for.
unfoldable pub has_few_contexts : PlanValue → Bool
has_few_contexts plan = nat_le (changes plan) 1024 || nat_le (16 * changes plan) (length (cuts_of plan.kind plan.log.entries))

-- it is found of a program that it is blind
abbrev pub is_noticed : PlanValue → CheckerValue → Bool
is_noticed plan checker = has_few_contexts plan && is_blind plan checker

-- two cuts have the same epoch and the same marks
abbrev pub same_context : List Entry → ℕ → ℕ → Bool
same_context es last cut = (epoch_at es last == epoch_at es cut) && (marks_at es last == marks_at es cut)

-- the wanted cut of a place and the one before it
pub record IsLastContext (plan : PlanValue) (place last cut : ℕ) : Type 0 where
  pub before : slice_get (cuts_of plan.kind plan.log.entries) (place - 1) ≡ Some last
  pub here : slice_get (cuts_of plan.kind plan.log.entries) place ≡ Some cut
  pub low : last ≤ length plan.log.entries
  pub within : cut ≤ length plan.log.entries
  pub same : same_context plan.log.entries last cut ≡ true

-- of which programs it is found that they are blind: of all, one after the other, where failing images or cases are told
abbrev pub blind_found : WantedAnswer → PlanValue → List CheckerValue → List Bool
blind_found (wanted.Told t) plan checkers = map (is_noticed plan) checkers
blind_found wanted.Cured plan checkers = []
blind_found (wanted.CuredCases l) plan checkers = []
blind_found (wanted.Cases l) plan checkers = map (is_noticed plan) checkers

-- that is found of a run
pub record FindsBlind (w : WantedAnswer) (text : Recording) (files : List (List ℕ)) (s : Settings) (found : List Bool) : Type 0 where
  pub value : LogValue
  pub source : HasImages text s value
  pub checkers : List CheckerValue
  pub made : AreCheckersOf s files checkers
  pub is : found ≡ blind_found w (plan_of s value) checkers

-- Such a program answers on each image what it answers on that of the cut in which nothing is lost or torn, and passes. So it is
-- said of no program that fails on an image.
pub record BlindProgramsPass : Type 0 where
  pub alike : (s : Subject) (checker : CheckerValue) (image : ℕ) (choice : ChoiceValue) → IsLog s.plan.log → is_blind s.plan checker ≡ true
      → slice_get (choices_of s) image ≡ Some choice → ending_at s choice checker ≡ ending_on checker (whole_at s.plan.log choice.cut)
  pub passes : (s : Subject) (checker : CheckerValue) (image : ℕ) (choice : ChoiceValue) → IsLog s.plan.log → is_blind s.plan checker ≡ true
      → slice_get (choices_of s) image ≡ Some choice → fails (ending_at s choice checker) ≡ false
  pub lines : (s : Subject) (i : ℕ) (l : FailingLine) (checker : CheckerValue) → IsLog s.plan.log → slice_get (failing_lines s) i ≡ Some l
      → slice_get s.checkers l.program ≡ Some checker → is_blind s.plan checker ≡ false
