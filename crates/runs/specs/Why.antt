-- Why programs fail on the crash images of a log, and what a run is to tell (docs/OUTPUT.md, The text of `why`).
use Rattle.std.specs.Prelude.{ℕ, ◌≡◌, ◌==◌, Bool, false, List, ◌++◌, codes, length, map, filter}
use Rattle.logfmt.specs.Bounds.{LogValue}
use Rattle.choices.specs.Sums.{StartsValue}
use Rattle.checker.specs.Checker.{CheckerValue}
use Rattle.report.specs.Line.{FailingLine}
use Rattle.losses.specs.declared.flushes.counted.MissingFlush.{MissingFlush}
use Rattle.losses.specs.Counted.{AreMissing}
use Rattle.report.specs.Report.{HeadValue, options_text, totals_line}
use Rattle.losses.specs.declared.why.cut.CutFailures.{CutFailures}
use Rattle.losses.specs.Causes.{AreCauses, causes_from}
use Rattle.losses.specs.declared.cure.failure.Failure.{Failure}
use Rattle.losses.specs.FailureWindows.{AreFailures, windows_in}
use Rattle.losses.specs.CureText.{missing_text}
use Rattle.losses.specs.ProgramOutcomes.{outcomes_failing}
use Rattle.workers.specs.Failing.{failing_lines}
use Rattle.request.specs.Inputs.{inputs_number}
use Rattle.runs.specs.Paged.{IsPageOf}
use Rattle.request.specs.declared.settings.Settings.{Settings}
use Rattle.request.specs.declared.settings.Telling.{Telling}
use Rattle.request.specs.declared.settings.Telling.TheVariants as telling
use Rattle.request.specs.Source.{Recording, plan_of}
use Rattle.runs.specs.Explore.{IsRun, subject_of, head_of, report_of}

-- the images on which a program fails, by the failing lines
abbrev pub images_failing : ℕ → List FailingLine → List ℕ
images_failing program ls = map (λ (l : FailingLine). l.image) (filter (λ (l : FailingLine). l.program == program) ls)

-- the choices of a log, which number its images
abbrev pub starts_of : Settings → LogValue → StartsValue
starts_of s value = record { plan = plan_of s value; bound = s.bound; tears = s.tears }

-- the failures of failing lines, and the flushes that are missing for them: those of the first round of a cure
pub record IsMissing (s : StartsValue) (ls : List FailingLine) (fs : List Failure) (ms : List MissingFlush) : Type 0 where
  pub failures : AreFailures s.plan.by s.plan.log.entries ls fs
  pub missing : AreMissing (windows_in fs) ms

-- how the text begins: the options and the programs as in the report, and the totals of the report
unfoldable pub why_head : HeadValue → List FailingLine → List ℕ
why_head h ls = codes "crash why 2\n" ++ options_text h ++ totals_line h.images ls

-- the whole text
unfoldable pub why_text : HeadValue → StartsValue → List FailingLine → List Failure → List MissingFlush → List (List CutFailures) → List ℕ
why_text h s ls fs ms causes = why_head h ls ++ missing_text (length h.programs) fs ms ++ causes_from s (λ program. outcomes_failing program ls) 0 causes

-- the bytes say which flushes are missing, and of each program what fails at each cut
pub record TellsCauses (h : HeadValue) (s : StartsValue) (ls : List FailingLine) (bytes : List ℕ) : Type 0 where
  pub failures : List Failure
  pub missing : List MissingFlush
  pub are_missing : IsMissing s ls failures missing
  pub causes : List (List CutFailures)
  pub all : length causes ≡ length h.programs
  pub each : AreCauses s (λ program. images_failing program ls) (λ program. outcomes_failing program ls) causes
  pub text : bytes ≡ why_text h s ls failures missing causes

-- the same settings, with the first failing image alone or all of them
abbrev pub with_first : Bool → Settings → Settings
with_first first s = record {
  sectors = s.sectors;
  limits = s.limits;
  cuts = s.cuts;
  bound = s.bound;
  tears = s.tears;
  by = s.by;
  workers = s.workers;
  cache = s.cache;
  checked = s.checked;
  guards = s.guards;
  first = first;
  extent = s.extent;
}

-- the bytes say why the programs fail on the images of the log, by the failing lines
abbrev pub TellsOfLines : Settings → LogValue → List CheckerValue → List FailingLine → List ℕ → Type 0
TellsOfLines s value checkers ls bytes =
    TellsCauses (head_of (with_first false s) value checkers) (starts_of s value) ls bytes

-- the bytes are the page of where the programs fail on the images of the log, by the failing lines
abbrev pub PageOfLines : Settings → LogValue → List CheckerValue → List FailingLine → List ℕ → Type 0
PageOfLines s value checkers ls bytes =
    IsPageOf (head_of (with_first false s) value checkers) (starts_of s value) (λ program. images_failing program ls) ls bytes

-- what the bytes of a run are: the report, why programs fail, or the page of where they fail
abbrev pub Tells : Telling → ℕ → Settings → LogValue → List CheckerValue → List ℕ → Type 0
Tells telling.Report inputs s value checkers bytes = bytes ≡ report_of inputs s value checkers
Tells telling.Causes inputs s value checkers bytes = TellsOfLines s value checkers (failing_lines (subject_of s value checkers)) bytes
Tells telling.Page inputs s value checkers bytes = PageOfLines s value checkers (failing_lines (subject_of s value checkers)) bytes

-- what a run answers
abbrev pub IsTold : Telling → Recording → List (List ℕ) → Settings → List ℕ → Bool → Type 0
IsTold t text files s bytes failing = IsRun (λ s value checkers bytes. Tells t (inputs_number text.text files) s value checkers bytes) text files s bytes failing

-- the bytes say why the programs fail on the crash images of the log: what the report says of them, image by image
abbrev pub IsExplained : Recording → List (List ℕ) → Settings → List ℕ → Bool → Type 0
IsExplained text files s bytes failing = IsTold telling.Causes text files s bytes failing

-- the bytes are the page of running the programs on the crash images of the log
abbrev pub IsPaged : Recording → List (List ℕ) → Settings → List ℕ → Bool → Type 0
IsPaged text files s bytes failing = IsTold telling.Page text files s bytes failing

-- whether the first failing image alone is asked for: of why programs fail all images are told
abbrev pub first_asked : Telling → Bool → Bool
first_asked telling.Report first = first
first_asked telling.Causes first = false
first_asked telling.Page first = false
