-- What is found of every image that is asked for, whatever was lost there (docs/CRASH-MODEL.md, Any number of losses).
use Rattle.std.specs.Prelude.{ℕ, ◌≡◌, ◌≤◌, true, List, length, count_by, slice_get, Some, IfSome}
use Rattle.logfmt.specs.Bounds.{LogValue, IsLog}
use Rattle.epochs.specs.declared.part.Part.{Part}
use Rattle.epochs.specs.declared.part.By.{By}
use Rattle.epochs.specs.declared.cuts.Cuts.{Cuts}
use Rattle.epochs.specs.Cuts.{is_wanted}
use Rattle.interp.specs.Ending.{ending_of}
use Rattle.machine.specs.Outcome.{fails}
use Rattle.checker.specs.Checker.{CheckerValue}
use Rattle.cases.specs.Risk.{parts_at_risk}
use Rattle.cases.specs.Choices.{Choice, image_at}
use Rattle.cases.specs.Trees.{is_lost, is_torn}
use Rattle.cases.specs.Laws.{Includes, IsChoice}
use Rattle.cases.specs.AtCut.{parts_of, case_of}
use Rattle.losses.specs.declared.found.Losses.{Losses}
use Rattle.losses.specs.declared.found.CaseFindings.{CaseFindings}
use Rattle.losses.specs.declared.found.CutFound.{CutFound}
use Rattle.losses.specs.declared.found.FailingCase.{FailingCase}
use Rattle.case_runs.specs.Laws.{judged_at}
use Rattle.case_runs.specs.Found.{AreFoundIn}
use Rattle.case_runs.specs.Cuts.{case_cuts}

-- a choice is asked for: its cut is wanted, and there as few parts are torn, and if that is bounded as few aren't whole, as is asked
pub record IsAskedFor (asked : Losses) (wanted : Cuts) (log : LogValue) (way : By) (cut : ℕ) (choice : Choice) : Type 0 where
  pub within : cut ≤ length log.entries
  pub at : is_wanted wanted log.entries cut ≡ true
  pub possible : IsChoice asked.tears choice
  pub torn : count_by (λ (p : Part). is_torn (choice p)) (parts_at_risk way log.entries cut) ≤ asked.torn
  pub lost : IfSome asked.lost (λ n. count_by (λ (p : Part). is_lost (choice p)) (parts_at_risk way log.entries cut) ≤ n)

-- The image of a choice at a cut is one of a failing case of a checker that was found: of a choice in that case, at its cut. The checker
-- ends on it as the case says.
pub record IsInFailing (asked : Losses) (log : LogValue) (way : By) (found : List CutFound) (cut : ℕ) (choice : Choice) (number : ℕ) (checker : CheckerValue) : Type 0 where
  pub place : ℕ
  pub at : CutFound
  pub told : slice_get found place ≡ Some at
  pub own : CaseFindings
  pub of_checker : slice_get at.programs.items number ≡ Some own
  pub case : ℕ
  pub failing : FailingCase
  pub there : slice_get own.failing.items case ≡ Some failing
  pub other : Choice
  pub image : image_at log way at.cut other ≡ image_at log way cut choice
  pub includes : Includes other (case_of asked.tears (parts_of (record { log = log; way = way; cut = at.cut })) failing.sets.items)
  pub ends : judged_at log way cut checker choice ≡ ending_of failing.outcome

-- Each image that is asked for and on which a checker fails is one of a failing case that was found. So where none of a checker was found, it
-- fails on none of them.
abbrev pub LossesAreFound : Type 0
LossesAreFound =
    (asked : Losses) (wanted : Cuts) (log : LogValue) (way : By) (checkers : List CheckerValue) (found : List CutFound) → IsLog log
    → AreFoundIn asked log way (case_cuts asked.lost wanted log.entries) checkers found → (cut : ℕ) (choice : Choice) (number : ℕ) (checker : CheckerValue)
    → IsAskedFor asked wanted log way cut choice → slice_get checkers number ≡ Some checker → fails (judged_at log way cut checker choice) ≡ true
    → IsInFailing asked log way found cut choice number checker

-- each cut at which cases were looked for is one that is wanted, where the log has the first that is
abbrev pub FoundCutsAreWanted : Type 0
FoundCutsAreWanted =
    (asked : Losses) (wanted : Cuts) (log : LogValue) (way : By) (checkers : List CheckerValue) (found : List CutFound)
    → IfSome wanted.from (λ k. k ≤ length log.entries) → AreFoundIn asked log way (case_cuts asked.lost wanted log.entries) checkers found
    → (place : ℕ) (at : CutFound) → slice_get found place ≡ Some at → (at.cut ≤ length log.entries) × (is_wanted wanted log.entries at.cut ≡ true)
