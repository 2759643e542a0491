-- What was begun at cuts with checkers, and what comes of it.
use Rattle.std.specs.Prelude.{ℕ, ◌≡◌, List, [], ◌∷◌, Option, Some, slice_get, All, IfSome}
use Rattle.checker.specs.Checker.{CheckerValue}
use Rattle.cases.specs.Cases.{Case, whole_case}
use Rattle.cases.specs.AtCut.{CutValue}
use Rattle.case_runs.specs.declared.work.CaseWork.{CaseWork}
use Rattle.case_runs.specs.declared.pieces.Start.{Start}
use Rattle.case_runs.specs.declared.pieces.Subtree.{Subtree}
use Rattle.case_runs.specs.declared.pieces.Begun.{Begun}
use Rattle.case_runs.specs.declared.pieces.SubtreeAnswer.{SubtreeAnswer}
use Rattle.case_runs.specs.Pieces.{subject_in, start_case, IsStart, ArePieces}

abbrev pub cut_in : CaseWork → ℕ → CutValue
cut_in work cut = record { log = work.log.now; way = work.way; cut = cut }

-- pieces of a cut and a checker
abbrev pub AreOf : CaseWork → ℕ → CheckerValue → List Subtree → List Case → Type 0
AreOf work cut checker pieces from = ArePieces (subject_in work.asked (cut_in work cut) checker) work.asked.tears (cut_in work cut) pieces from

-- pieces that have all of a cut and a checker, by its number
pub record AreAllOf (work : CaseWork) (cut program : ℕ) (pieces : List Subtree) : Type 0 where
  pub have : (c : CheckerValue) → slice_get work.checkers.now program ≡ Some c → AreOf work cut c pieces (whole_case work.asked.tears ∷ [])

-- what was begun at a cut with a checker
abbrev pub IsBegun : CaseWork → Begun → Type 0
IsBegun work begun = AreAllOf work begun.cut begun.program begun.pieces.items

-- pieces that have the tree below a start
pub record AreBelow (work : CaseWork) (cut program : ℕ) (start : Start) (pieces : List Subtree) : Type 0 where
  pub have : (c : CheckerValue) → slice_get work.checkers.now program ≡ Some c → IsStart (cut_in work cut) start
      → AreOf work cut c pieces (start_case work.asked.tears (cut_in work cut) start ∷ [])

-- what came of an open piece
abbrev pub IsAnswer : CaseWork → SubtreeAnswer → Type 0
IsAnswer work answer = AreBelow work answer.cut answer.program answer.start answer.pieces.items

-- such answers, where there are some
abbrev pub AreAnswers : CaseWork → List (Option SubtreeAnswer) → Type 0
AreAnswers work places = All (λ place. IfSome place (IsAnswer work)) places

-- other pieces have the tree that some have
pub record HaveSame (work : CaseWork) (cut program : ℕ) (old new : List Subtree) : Type 0 where
  pub same : (c : CheckerValue) (from : List Case) → slice_get work.checkers.now program ≡ Some c → AreOf work cut c old from → AreOf work cut c new from
