-- What the text of cases says of every image that is asked for, whatever was lost there (docs/CRASH-MODEL.md, Any number of losses).
use Rattle.std.specs.Prelude.{ℕ, ◌≡◌, ◌≤◌, Bool, true, false, List, length, slice_get, None, Some}
use Rattle.interp.specs.Ending.{ending_of}
use Rattle.epochs.specs.Cuts.{is_wanted}
use Rattle.machine.specs.Outcome.{fails}
use Rattle.images.specs.Views.{context_at}
use Rattle.soundness.specs.Accepted.{IsSafeRun}
use Rattle.workers.specs.Safe.{IsVerdict}
use Rattle.checker.specs.Checker.{CheckerValue}
use Rattle.cases.specs.Choices.{Choice, image_at}
use Rattle.cases.specs.Laws.{Includes}
use Rattle.cases.specs.AtCut.{parts_of, case_of}
use Rattle.losses.specs.declared.found.CaseFindings.{CaseFindings}
use Rattle.losses.specs.declared.found.CutFound.{CutFound}
use Rattle.losses.specs.declared.found.FailingCase.{FailingCase}
use Rattle.case_runs.specs.Laws.{judged_at}
use Rattle.case_runs.specs.AnyLoss.{IsAskedFor, IsInFailing}
use Rattle.request.specs.declared.any_losses.AnyLosses.{AnyLosses}
use Rattle.request.specs.declared.settings.Settings.{Settings}
use Rattle.request.specs.Source.{Recording}
use Rattle.runs.specs.CaseCuts.{losses_of}
use Rattle.runs.specs.Cases.{IsCases}

-- Each image of each wanted cut on which a program fails, with as few torn parts, and if that is bounded as few lost ones, as is asked, is one
-- of a failing case that is told. So where the text has no line of a program, the program fails on none of them. Where all cuts are
-- wanted, and any number of parts may be lost, these are all images of all cuts.
abbrev pub AnyLossIsTold : Type 0
AnyLossIsTold =
    (l : AnyLosses) (text : Recording) (files : List (List ℕ)) (s : Settings) (bytes : List ℕ) (failing : Bool) (h : IsCases l text files s bytes failing)
    → (cut : ℕ) (choice : Choice) (program : ℕ) (checker : CheckerValue) → IsAskedFor (losses_of l s) s.cuts h.value s.by cut choice
    → slice_get h.checkers program ≡ Some checker → fails (judged_at h.value s.by cut checker choice) ≡ true
    → IsInFailing (losses_of l s) h.value s.by h.tells.found cut choice program checker

-- A failing case that is told is one of a wanted cut. Each of its choices has an image on which its program fails, and ends as the case
-- says. So a program fails on exactly the images of its cases that are told, and on those of which `AnyLossIsTold` says nothing.
abbrev pub ToldCasesFail : Type 0
ToldCasesFail =
    (l : AnyLosses) (text : Recording) (files : List (List ℕ)) (s : Settings) (bytes : List ℕ) (failing : Bool) (h : IsCases l text files s bytes failing)
    → (place : ℕ) (at : CutFound) (program : ℕ) (own : CaseFindings) (checker : CheckerValue) (number : ℕ) (f : FailingCase) (choice : Choice)
    → slice_get h.tells.found place ≡ Some at → slice_get at.programs.items program ≡ Some own → slice_get h.checkers program ≡ Some checker
    → slice_get own.failing.items number ≡ Some f → Includes choice (case_of s.tears (parts_of (record { log = h.value; way = s.by; cut = at.cut })) f.sets.items)
    → (at.cut ≤ length h.value.entries) × (is_wanted s.cuts h.value.entries at.cut ≡ true) × (judged_at h.value s.by at.cut checker choice ≡ ending_of f.outcome)
    × (fails (ending_of f.outcome) ≡ true)

-- Where neither `--checked` nor `--guards` is asked for, a program has no fault on any image of any cut, whatever is lost there, and ends in a
-- verdict within its budget. So does each failing case that is told.
pub record CasesAreFaultless : Type 0 where
  pub runs : (l : AnyLosses) (text : Recording) (files : List (List ℕ)) (s : Settings) (bytes : List ℕ) (failing : Bool) (h : IsCases l text files s bytes failing)
      → s.checked ≡ None → s.guards ≡ false → (program : ℕ) (checker : CheckerValue) → slice_get h.checkers program ≡ Some checker → (cut : ℕ) (choice : Choice)
      → IsSafeRun checker.program (image_at h.value s.by cut choice) (context_at h.value cut) checker.limit
  pub cases : (l : AnyLosses) (text : Recording) (files : List (List ℕ)) (s : Settings) (bytes : List ℕ) (failing : Bool) (h : IsCases l text files s bytes failing)
      → s.checked ≡ None → s.guards ≡ false → (place : ℕ) (at : CutFound) (program : ℕ) (own : CaseFindings) (checker : CheckerValue) (number : ℕ) (f : FailingCase)
      → slice_get h.tells.found place ≡ Some at → slice_get at.programs.items program ≡ Some own → slice_get h.checkers program ≡ Some checker
      → slice_get own.failing.items number ≡ Some f → IsVerdict (ending_of f.outcome)
