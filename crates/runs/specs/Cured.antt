-- The cure of a log, tried (docs/COMMANDS.md, cure): runs of the log with more and more flushes.
use Rattle.std.specs.Prelude.{ℕ, ◌≡◌, ◌≢◌, ◌≤◌, ◌⊎◌, ◌↔◌, Bool, false, IsTrue, List, [], ◌∷◌, ◌++◌, length, Option, None, Some}
use Rattle.base.specs.declared.refusal.Refusal.{Refusal}
use Rattle.logfmt.specs.Bounds.{LogValue}
use Rattle.logfmt.specs.Flushed.{with_flushes}
use Rattle.choices.specs.Choices.{limit, IsFirstPast}
use Rattle.checker.specs.Checker.{CheckerValue}
use Rattle.losses.specs.declared.flushes.counted.MissingFlush.{MissingFlush}
use Rattle.losses.specs.Counted.{AreMissing}
use Rattle.report.specs.Line.{FailingLine}
use Rattle.report.specs.Report.{totals_line}
use Rattle.losses.specs.declared.cure.failure.Failure.{Failure}
use Rattle.losses.specs.FailureWindows.{AreFailures, windows_in, places_in}
use Rattle.losses.specs.CureText.{begin_text, uncured_text, rounds_text, refused_line}
use Rattle.workers.specs.Failing.{failing_lines}
use Rattle.losses.specs.declared.found.CutFound.{CutFound}
use Rattle.losses.specs.FoundCases.{cases_in, most_cases}
use Rattle.case_runs.specs.Found.{AreFoundIn}
use Rattle.case_text.specs.Text.{are_all_cuts, totals_text}
use Rattle.case_text.specs.Why.{all_failures}
use Rattle.case_text.specs.Cured.{cure_begin}
use Rattle.request.specs.declared.settings.Settings.{Settings}
use Rattle.request.specs.declared.any_losses.AnyLosses.{AnyLosses}
use Rattle.request.specs.Source.{Recording, plan_of, images_of, images_refusal, RefusesPlan}
use Rattle.runs.specs.declared.explore_command.WantedAnswer.{WantedAnswer}
use Rattle.runs.specs.declared.explore_command.WantedAnswer.TheVariants as wanted
use Rattle.runs.specs.Explore.{IsRun, subject_of, head_of}
use Rattle.runs.specs.Why.{IsTold, with_first}
use Rattle.case_runs.specs.Cuts.{case_cuts}
use Rattle.runs.specs.CaseCuts.{losses_of, HasMore}
use Rattle.runs.specs.Cases.{IsByCases, IsLosses}

-- the failing lines of a run of a log
abbrev pub run_lines : Settings → List CheckerValue → LogValue → List FailingLine
run_lines s checkers value = failing_lines (subject_of s value checkers)

-- a run of a log has these failures, each with its window or none
abbrev pub FailAs : Settings → List CheckerValue → LogValue → List Failure → Type 0
FailAs s checkers value fs = AreFailures s.by value.entries (run_lines s checkers value) fs

-- What a run of a log finds by its images: its failures, how a cure begins with them, and the last line of its report.
pub record FindsImages (s : Settings) (checkers : List CheckerValue) (value : LogValue) (failures : List Failure) (begin last : List ℕ) : Type 0 where
  pub few : length (images_of s value) ≤ limit
  pub fail : FailAs s checkers value failures
  pub begins : begin ≡ begin_text (head_of (with_first false s) value checkers) failures ++ uncured_text (run_lines s checkers value) failures
  pub ends : last ≡ totals_line (length (images_of s value)) (run_lines s checkers value)

-- What it finds by its cases, whatever is lost: its failing cases as failures, how a cure begins with them, and the last line of their text.
pub record FindsCases (l : AnyLosses) (s : Settings) (checkers : List CheckerValue) (value : LogValue) (failures : List Failure) (begin last : List ℕ) : Type 0 where
  pub images : length (images_of s value) ≤ limit
  pub found : List CutFound
  pub are : AreFoundIn (losses_of l s) value s.by (case_cuts l.at_most s.cuts value.entries) checkers found
  pub few : cases_in found ≤ most_cases
  pub fail : failures ≡ all_failures value s.by s.tears found
  pub begins : begin ≡ cure_begin (head_of (with_first false s) value checkers) (losses_of l s) value found
  pub ends : last ≡ totals_text (are_all_cuts s.cuts) found

-- by its cases where any number of losses is asked for, else by its images
abbrev pub Finds : Option AnyLosses → Settings → List CheckerValue → LogValue → List Failure → List ℕ → List ℕ → Type 0
Finds None s checkers value failures begin last = FindsImages s checkers value failures begin last
Finds (Some l) s checkers value failures begin last = FindsCases l s checkers value failures begin last

-- There are more cases than a run may have, by the cut with which there are. Its images are counted before.
abbrev pub HasMoreCases : Option AnyLosses → Settings → List CheckerValue → LogValue → ℕ → Type 0
HasMoreCases None s checkers value cut = ⊥
HasMoreCases (Some l) s checkers value cut = (length (images_of s value) ≤ limit) × HasMore l s value checkers cut

-- a run has too many images, or too many cases, by the first cut with which they are
abbrev pub IsPast : Option AnyLosses → Settings → List CheckerValue → LogValue → ℕ → Type 0
IsPast None s checkers value cut = IsFirstPast (plan_of s value) s.bound s.tears cut
IsPast (Some l) s checkers value cut = IsFirstPast (plan_of s value) s.bound s.tears cut ⊎ HasMoreCases (Some l) s checkers value cut

-- a round: some failure of a run has a window, and these flushes are missing for all that have one
pub record IsRound (o : Option AnyLosses) (s : Settings) (checkers : List CheckerValue) (value : LogValue) (ms : List MissingFlush) : Type 0 where
  pub failures : List Failure
  pub begin : List ℕ
  pub last : List ℕ
  pub finds : Finds o s checkers value failures begin last
  pub some : windows_in failures ≢ []
  pub missing : AreMissing (windows_in failures) ms

-- rounds, each of a run of the log with the flushes of all before it
abbrev pub AreRounds : Option AnyLosses → Settings → List CheckerValue → LogValue → List (List MissingFlush) → Type 0
AreRounds o s checkers value [] = Unit {0}
AreRounds o s checkers value (ms ∷ rounds) = IsRound o s checkers value ms × AreRounds o s checkers (with_flushes (places_in ms) value) rounds

-- the log with the flushes of all rounds
abbrev pub with_rounds : LogValue → List (List MissingFlush) → LogValue
with_rounds value [] = value
with_rounds value (ms ∷ rounds) = with_rounds (with_flushes (places_in ms) value) rounds

-- the last run: it is made and no failure of it has a window, or it has too many images or cases, by the first cut with which they are
pub data Ends (o : Option AnyLosses) (s : Settings) (checkers : List CheckerValue) (value : LogValue) : List ℕ → Type 0 where
  with_totals : (failures : List Failure) (begin last : List ℕ) → Finds o s checkers value failures begin last → windows_in failures ≡ [] → Ends o s checkers value last
  with_refusal : (cut : ℕ) → IsPast o s checkers value cut → Ends o s checkers value (refused_line cut)

-- the text tells of rounds from that number on, and of the last run
pub record TellsRounds (o : Option AnyLosses) (s : Settings) (checkers : List CheckerValue) (value : LogValue) (number : ℕ) (text : List ℕ) : Type 0 where
  pub rounds : List (List MissingFlush)
  pub are : AreRounds o s checkers value rounds
  pub end : List ℕ
  pub ends : Ends o s checkers (with_rounds value rounds) end
  pub told : text ≡ rounds_text number rounds ++ end

-- the text of a cure: how it begins with the failures of the first run, and then the rounds
pub record TellsCure (o : Option AnyLosses) (s : Settings) (value : LogValue) (checkers : List CheckerValue) (bytes : List ℕ) : Type 0 where
  pub failures : List Failure
  pub begin : List ℕ
  pub last : List ℕ
  pub finds : Finds o s checkers value failures begin last
  pub rounds : List ℕ
  pub tells : TellsRounds o s checkers value 1 rounds
  pub text : bytes ≡ begin ++ rounds

-- and whether the first run has a failure
pub record Cures (o : Option AnyLosses) (s : Settings) (value : LogValue) (checkers : List CheckerValue) (bytes : List ℕ) (failing : Bool) : Type 0 where
  pub tells : TellsCure o s value checkers bytes
  pub fails : IsTrue failing ↔ (tells.failures ≢ [])

-- why a run finds nothing: it has too many images or there is no memory, or it has too many cases
abbrev pub RefusesRun : Option AnyLosses → Settings → List CheckerValue → LogValue → Refusal → Type 0
RefusesRun o s checkers value r = RefusesPlan s value r ⊎ ((cut : ℕ) × (r ≡ images_refusal cut) × HasMoreCases o s checkers value cut)

-- the bytes tell where flushes are missing in the log, and what is left with them
abbrev pub IsCured : Recording → List (List ℕ) → Settings → List ℕ → Bool → Type 0
IsCured text files s bytes failing = IsRun (TellsCure None) text files s bytes failing

-- the same by cases, whatever is lost
abbrev pub IsCasesCured : AnyLosses → Recording → List (List ℕ) → Settings → List ℕ → Bool → Type 0
IsCasesCured l text files s bytes failing = IsByCases (Cures (Some l)) text files s bytes failing

-- what a run answers that is asked for this: what is told of it, where flushes are missing, run by run, by images or by cases, or which
-- cases fail, or which first
abbrev pub IsAnswered : WantedAnswer → Recording → List (List ℕ) → Settings → List ℕ → Bool → Type 0
IsAnswered (wanted.Told t) text files s bytes failing = IsTold t text files s bytes failing
IsAnswered wanted.Cured text files s bytes failing = IsCured text files s bytes failing
IsAnswered (wanted.CuredCases l) text files s bytes failing = IsCasesCured l text files s bytes failing
IsAnswered (wanted.Cases l) text files s bytes failing = IsLosses s.first l text files s bytes failing
