-- What a run answers, and when it refuses (docs/OUTPUT.md).
use Rattle.std.specs.Prelude.{ℕ, ◌≡◌, ◌≢◌, ◌≤◌, Bool, true, false, IsTrue, ◌↔◌, List, [], ◌∷◌, length, map, take, Option, None, Some, is_some, slice_get}
use Rattle.base.specs.declared.causes.CodeCause.TheVariants as code
use Rattle.base.specs.declared.causes.VerifierCause.TheVariants as verifier
use Rattle.base.specs.declared.refusal.Refusal.{Refusal}
use Rattle.base.specs.Refusals.{memory_refusal}
use Rattle.logfmt.specs.Bounds.{LogValue}
use Rattle.images.specs.Number.{initial_number}
use Rattle.bpf_isa.specs.declared.instr.Instr.{Instr}
use Rattle.bpf_isa.specs.Program as code_fault
use Rattle.checker.specs.Checker.{CheckerValue}
use Rattle.report.specs.declared.head.ProgramHead.{ProgramHead}
use Rattle.report.specs.Report.{HeadValue, report_bytes}
use Rattle.report.specs.Part.{span_report}
use Rattle.report.specs.Line.{FailingLine}
use Rattle.workers.specs.Failing.{Subject, failing_lines}
use Rattle.workers.specs.Safe.{IsVerdict, RunsSafely, IsAcceptedFor, IsAcceptedBy, RunsSafelyWithGuards, IsOverWithGuards}
use Rattle.request.specs.declared.extent.Extent.{Extent}
use Rattle.request.specs.declared.extent.Extent.TheVariants as extent
use Rattle.request.specs.declared.settings.OptionPlace.TheVariants as place
use Rattle.request.specs.declared.settings.Settings.{Settings}
use Rattle.request.specs.Settings.{option_refusal}
use Rattle.runs.specs.Programs.{IsRunWithin, code_refusal, IsCodeFault, verifier_refusal, IsVerifierFault}
use Rattle.request.specs.declared.any_losses.AnyLosses.{AnyLosses}
use Rattle.request.specs.Source.{Recording, plan_of, images_of, images_refusal, HasImages, RefusesSource}
use Rattle.runs.specs.declared.explore_command.WantedAnswer.{WantedAnswer}
use Rattle.runs.specs.declared.explore_command.WantedAnswer.TheVariants as wanted
use Rattle.runs.specs.CaseCuts.{HasTooMany, HasMore}
use Rattle.request.specs.Inputs.{inputs_number}
use Rattle.request.specs.Extents.{first_meant, end_meant}
use Rattle.runs.specs.Judged.{takes}

-- a run has one program to eight
pub record IsProgramCount (n : ℕ) : Type 0 where
  pub some : 1 ≤ n
  pub few : n ≤ 8

-- the checker that a run makes of the bytes of a program
pub record IsCheckerOf (s : Settings) (bytes : List ℕ) (c : CheckerValue) : Type 0 where
  pub spelled : code_fault.IsSpelledBy bytes c.program
  pub clean : code_fault.HasNoFault bytes
  pub within : IsRunWithin s.checked s.guards s.sectors c

-- the checkers that a run makes of its files
abbrev pub AreCheckersOf : Settings → List (List ℕ) → List CheckerValue → Type 0
AreCheckersOf s [] [] = Unit {0}
AreCheckersOf s [] (c ∷ checkers) = ⊥
AreCheckersOf s (bytes ∷ files) [] = ⊥
AreCheckersOf s (bytes ∷ files) (c ∷ checkers) = IsCheckerOf s bytes c × AreCheckersOf s files checkers

-- what is judged, and what stands at the head of the report
abbrev pub subject_of : Settings → LogValue → List CheckerValue → Subject
subject_of s value checkers = record {
  plan = plan_of s value;
  checkers = checkers;
  bound = s.bound;
  tears = s.tears;
  from = first_meant s.extent;
  to = end_meant s.extent (length (images_of s value));
  first = s.first;
}

abbrev pub program_head : CheckerValue → ProgramHead
program_head checker = record { slots = length checker.program; limit = checker.limit; verified = is_some checker.verified; guards = checker.guards }

unfoldable pub head_of : Settings → LogValue → List CheckerValue → HeadValue
head_of s value checkers = record {
  sectors = s.sectors;
  entries = length value.entries;
  cuts = s.cuts;
  bound = s.bound;
  tears = s.tears;
  by = s.by;
  first = s.first;
  programs = map program_head checkers;
  images = length (images_of s value);
  base = initial_number value;
}

-- the text of the images that are meant: the report of all images, or the text of a part, which names the number of the inputs
abbrev pub images_text : Extent → ℕ → HeadValue → List FailingLine → List ℕ
images_text extent.Whole inputs h ls = report_bytes h ls
images_text extent.Wide inputs h ls = report_bytes h ls
images_text (extent.Part from to) inputs h ls = span_report h (record { from = from; to = to; images = h.images; inputs = inputs }) ls

-- the report of a log and of checkers: of all failing lines of the images that are meant, or of the first failing one of them alone
abbrev pub report_of : ℕ → Settings → LogValue → List CheckerValue → List ℕ
report_of inputs s value checkers = images_text s.extent inputs (head_of s value checkers) (failing_lines (subject_of s value checkers))

-- No program has a fault or spends its limit: each is accepted without guards, and ends on each image in the machine's verdict
-- within the limit that the report prints, and each line is that of a verdict.
pub record IsFaultless (subject : Subject) : Type 0 where
  pub runs : (program : ℕ) (checker : CheckerValue) → slice_get subject.checkers program ≡ Some checker → IsAcceptedFor subject checker × RunsSafely subject checker
  pub lines : (i : ℕ) (l : FailingLine) → slice_get (failing_lines subject) i ≡ Some l → IsVerdict l.ending

-- a line is of a program that is accepted with guards, and that of a verdict or of a stray at a slot that its least table guards
pub record IsOverLine (subject : Subject) (l : FailingLine) : Type 0 where
  pub checker : CheckerValue
  pub of_program : slice_get subject.checkers l.program ≡ Some checker
  pub is : IsAcceptedBy true subject checker
  pub over : IsOverWithGuards subject checker is l.ending

-- With guards a program may also stray, at a slot that its least table guards: on each image each ends so within the budget that the
-- report prints, and so says each line.
pub record IsGuarded (subject : Subject) : Type 0 where
  pub runs : (program : ℕ) (checker : CheckerValue) → slice_get subject.checkers program ≡ Some checker
      → (is : IsAcceptedBy true subject checker) × RunsSafelyWithGuards subject checker is
  pub lines : (i : ℕ) (l : FailingLine) → slice_get (failing_lines subject) i ≡ Some l → IsOverLine subject l

-- what is true of runs of accepted programs, without guards and with them
abbrev pub IsSafe : Bool → Subject → Type 0
IsSafe false subject = IsFaultless subject
IsSafe true subject = IsGuarded subject

-- the bytes tell this of the programs on the crash images of the log; where no limit of steps is asked for, nothing has a fault
-- or spends a limit
pub record IsRun (Tells : Settings → LogValue → List CheckerValue → List ℕ → Type 0) (text : Recording) (files : List (List ℕ)) (s : Settings) (bytes : List ℕ) (failing : Bool) : Type 0 where
  pub count : IsProgramCount (length files)
  pub value : LogValue
  pub source : HasImages text s value
  pub checkers : List CheckerValue
  pub made : AreCheckersOf s files checkers
  pub tells : Tells s value checkers bytes
  pub fails : IsTrue failing ↔ (failing_lines (subject_of s value checkers) ≢ [])
  pub faultless : s.checked ≡ None → IsSafe s.guards (subject_of s value checkers)

-- each checker has the program that its file spells
abbrev pub ArePrograms : List (List ℕ) → List CheckerValue → Type 0
ArePrograms [] [] = Unit {0}
ArePrograms [] (c ∷ checkers) = ⊥
ArePrograms (bytes ∷ files) [] = ⊥
ArePrograms (bytes ∷ files) (c ∷ checkers) = code_fault.IsSpelledBy bytes c.program × ArePrograms files checkers

-- The bytes report every failing image of the log, of those that are meant, and no other, or the first alone where that is asked for. The
-- programs are those that the files spell, and each is run for as many steps as the head of the report says.
pub record IsReport (text : Recording) (files : List (List ℕ)) (s : Settings) (bytes : List ℕ) (failing : Bool) : Type 0 where
  pub value : LogValue
  pub source : HasImages text s value
  pub checkers : List CheckerValue
  pub programs : ArePrograms files checkers
  pub tells : bytes ≡ report_of (inputs_number text.text files) s value checkers
  pub fails : IsTrue failing ↔ (failing_lines (subject_of s value checkers) ≢ [])

-- such a report of a run as it is asked for: of programs that have the limit of steps, or that the verifier accepts and that run safely
abbrev pub IsReportOfRun : Recording → List (List ℕ) → Settings → List ℕ → Bool → Type 0
IsReportOfRun text files s bytes failing = IsRun (λ s value checkers bytes. bytes ≡ report_of (inputs_number text.text files) s value checkers) text files s bytes failing

-- the same, whether or not there is a failing image
abbrev pub HasReport : Recording → List (List ℕ) → Settings → List ℕ → Type 0
HasReport text files s bytes = (failing : Bool) × IsReportOfRun text files s bytes failing

-- the refusals of the programs: of the first that can't be decoded or isn't accepted, or for which memory is wanting; or
-- want of memory for their list
pub data RefusesProgram (s : Settings) (files : List (List ℕ)) : Refusal → Type 0 where
  with_code_fault : (r : Refusal) (program : ℕ) (bytes : List ℕ) (before : List CheckerValue)
      → AreCheckersOf s (take program files) before → slice_get files program ≡ Some bytes → IsCodeFault program bytes r → RefusesProgram s files r
  with_verifier_fault : (r : Refusal) (program : ℕ) (bytes : List ℕ) (slots : List (Option Instr)) (before : List CheckerValue)
      → AreCheckersOf s (take program files) before → slice_get files program ≡ Some bytes → code_fault.IsSpelledBy bytes slots
      → s.checked ≡ None → IsVerifierFault s.guards s.sectors program slots r → RefusesProgram s files r
  no_code_memory : (program : ℕ) (bytes : List ℕ) (before : List CheckerValue)
      → AreCheckersOf s (take program files) before → slice_get files program ≡ Some bytes → RefusesProgram s files (code_refusal program code.Memory 0)
  no_verifier_memory : (program : ℕ) (bytes : List ℕ) (slots : List (Option Instr)) (before : List CheckerValue)
      → AreCheckersOf s (take program files) before → slice_get files program ≡ Some bytes → code_fault.IsSpelledBy bytes slots
      → s.checked ≡ None → RefusesProgram s files (verifier_refusal program verifier.Memory 0)
  no_list_memory : RefusesProgram s files memory_refusal

-- the refusals in their order: the number of programs, the log, the number of its images, then each
-- program. Want of memory may come wherever a list has to grow.
pub data Refuses (text : Recording) (files : List (List ℕ)) (s : Settings) : Refusal → Type 0 where
  for_count : (IsProgramCount (length files) → ⊥) → Refuses text files s (option_refusal place.Programs)
  for_source : (r : Refusal) → IsProgramCount (length files) → RefusesSource text s r → Refuses text files s r
  for_program : (r : Refusal) (value : LogValue) → IsProgramCount (length files) → HasImages text s value → RefusesProgram s files r → Refuses text files s r

-- a run is refused that doesn't judge the images that are meant; every other one by these rules; and one that is asked for cases, or for a
-- cure by cases, where there are too many, by the cut with which there are
pub data RefusesWanted (w : WantedAnswer) (text : Recording) (files : List (List ℕ)) (s : Settings) : Refusal → Type 0 where
  for_extent : takes w s.extent ≡ false → RefusesWanted w text files s (option_refusal place.Images)
  for_rest : (r : Refusal) → takes w s.extent ≡ true → Refuses text files s r → RefusesWanted w text files s r
  for_cases : (l : AnyLosses) (value : LogValue) (checkers : List CheckerValue) (cut : ℕ) → w ≡ wanted.Cases l → takes w s.extent ≡ true
      → IsProgramCount (length files) → HasImages text s value → AreCheckersOf s files checkers → HasTooMany l s value checkers cut
      → RefusesWanted w text files s (images_refusal cut)
  for_cure : (l : AnyLosses) (value : LogValue) (checkers : List CheckerValue) (cut : ℕ) → w ≡ wanted.CuredCases l → takes w s.extent ≡ true
      → IsProgramCount (length files) → HasImages text s value → AreCheckersOf s files checkers → HasMore l s value checkers cut
      → RefusesWanted w text files s (images_refusal cut)
