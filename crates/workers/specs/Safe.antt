-- Checkers that the verifier accepted run safely on each image (docs/PROVED.md, The headline guarantee; docs/VERIFIER.md, Guards).
use Rattle.std.specs.Prelude.{ℕ, ◌≡◌, Bool, true, false, List, slice_get, Some, is_some}
use Rattle.logfmt.specs.Bounds.{IsLog}
use Rattle.choices.specs.Choices.{ChoiceValue}
use Rattle.images.specs.Views.{view_of, sectors_of, context_at}
use Rattle.machine.specs.Outcome.{Ending, Verdict}
use Rattle.checker.specs.Checker.{CheckerValue}
use Rattle.report.specs.Line.{FailingLine}
use Rattle.verifier.specs.Verdicts.{IsAcceptedWith}
use Rattle.soundness.specs.Accepted.{IsSafeRun}
use Rattle.soundness.specs.Guards.{IsSafeRunWithGuards, IsOver}
use Rattle.workers.specs.Failing.{Subject, choices_of, failing_lines}

-- a run that ends in a verdict has no fault and spends no limit
abbrev pub IsVerdict : Ending → Type 0
IsVerdict e = (answer : ℕ) × (codes : List ℕ) × (e ≡ Verdict answer codes)

-- on each image no step of the checker is a fault, and the machine ends in a verdict within its limit
abbrev pub RunsSafely : Subject → CheckerValue → Type 0
RunsSafely s checker =
    (image : ℕ) (choice : ChoiceValue) → slice_get (choices_of s) image ≡ Some choice
    → IsSafeRun checker.program (sectors_of (view_of s.plan choice)) (context_at s.plan.log choice.cut) checker.limit

-- the verifier accepts the checker for the device of the log, with guards or without, with its limit as the budget
pub record IsAcceptedBy (guards : Bool) (s : Subject) (checker : CheckerValue) : Type 0 where
  pub accepted : IsAcceptedWith guards checker.program s.plan.log.sectors checker.limit
  pub kind : is_some checker.guards ≡ guards

-- without guards
abbrev pub IsAcceptedFor : Subject → CheckerValue → Type 0
IsAcceptedFor s checker = IsAcceptedBy false s checker

-- with guards: on each image no step of the checker is a fault, and none strays but at a slot that its least table guards;
-- within its limit the machine ends in a verdict, or strays at such a slot
abbrev pub RunsSafelyWithGuards : (s : Subject) (checker : CheckerValue) → IsAcceptedBy true s checker → Type 0
RunsSafelyWithGuards s checker is =
    (image : ℕ) (choice : ChoiceValue) → slice_get (choices_of s) image ≡ Some choice
    → IsSafeRunWithGuards checker.program is.accepted.0 (sectors_of (view_of s.plan choice)) (context_at s.plan.log choice.cut) checker.limit

-- so a run of it is over with a verdict, or a stray at such a slot
abbrev pub IsOverWithGuards : (s : Subject) (checker : CheckerValue) → IsAcceptedBy true s checker → Ending → Type 0
IsOverWithGuards s checker is e = IsOver checker.program is.accepted.0 e

-- So it runs safely, and each of its failing lines is that of a verdict; with guards, of a verdict or of a stray.
pub record AcceptedCheckersRunSafely : Type 0 where
  pub images : (s : Subject) (checker : CheckerValue) → IsLog s.plan.log → IsAcceptedFor s checker → RunsSafely s checker
  pub lines : (s : Subject) (i : ℕ) (l : FailingLine) (checker : CheckerValue) → IsLog s.plan.log → slice_get (failing_lines s) i ≡ Some l
      → slice_get s.checkers l.program ≡ Some checker → IsAcceptedFor s checker → IsVerdict l.ending
  pub guarded_images : (s : Subject) (checker : CheckerValue) → IsLog s.plan.log → (is : IsAcceptedBy true s checker) → RunsSafelyWithGuards s checker is
  pub guarded_lines : (s : Subject) (i : ℕ) (l : FailingLine) (checker : CheckerValue) → IsLog s.plan.log → slice_get (failing_lines s) i ≡ Some l
      → slice_get s.checkers l.program ≡ Some checker → (is : IsAcceptedBy true s checker) → IsOverWithGuards s checker is l.ending
