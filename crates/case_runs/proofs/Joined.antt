-- Pieces, put together one by one.
use Rattle.std.proofs.Common.{ℕ, ◌≡◌, ◌+◌, ◌<◌, ◌≤◌, Bool, true, false, List, [], ◌∷◌, slice_get, Some, sym, subst, arith}
use Rattle.std.specs.List.{All}
use Rattle.checker.specs.Checker.{CheckerValue}
use Rattle.cases.specs.Cases.{Case, whole_case}
use Rattle.cases.specs.AtCut.{CutValue}
use Rattle.losses.specs.declared.found.Losses.{Losses}
use Rattle.losses.specs.declared.found.CaseFindings.{CaseFindings}
use Rattle.case_runs.specs.declared.work.CaseWork.{CaseWork}
use Rattle.case_runs.specs.declared.pieces.Subtree.{Subtree}
use Rattle.case_runs.specs.Found.{IsFoundAt, IsPastOne}
use Rattle.case_runs.specs.Pieces.{subject_in, IsStretch, ArePieces, IsStep, StepsTo, JoinsSo, StartsSo}
use Rattle.case_runs.specs.Shares.{cut_in, AreAllOf}
use Rattle.losses.specs.declared.found.FailingCase.{FailingCase}
use Rattle.case_runs.proofs.Stretching.{numbers_below, stretch_none, stretch_on, found_whole, past_both}
use Rattle.case_runs.proofs.Piecing.{first_starts}

-- what was found so far, and the pieces after it
pub record ComesTo (asked : Losses) (at : CutValue) (checker : CheckerValue) (found : CaseFindings) (pieces : List Subtree) : Type 0 where
  pub to : List Case
  pub stretch : IsStretch (subject_in asked at checker) asked.tears at (whole_case asked.tears ∷ []) found to
  pub rest : ArePieces (subject_in asked at checker) asked.tears at pieces to

pub comes_first : (work : CaseWork) (cut program : ℕ) (checker : CheckerValue) (found : CaseFindings) (pieces held : List Subtree) → (found.cases ≡ 0) × (found.torn_beyond ≡ 0) × (found.lost_beyond ≡ 0)
    → found.failing.items ≡ [] → slice_get work.checkers.now program ≡ Some checker → held ≡ pieces → AreAllOf work cut program pieces → ComesTo work.asked (cut_in work cut) checker found held
comes_first work cut program checker found pieces held none empty at is all = record {
  to = whole_case work.asked.tears ∷ [];
  stretch = stretch_none (subject_in work.asked (cut_in work cut) checker) work.asked.tears (cut_in work cut) (whole_case work.asked.tears ∷ []) found none empty;
  rest =
      subst (λ (ps : List Subtree). ArePieces (subject_in work.asked (cut_in work cut) checker) work.asked.tears (cut_in work cut) ps (whole_case work.asked.tears ∷ [])) (sym is)
      (all.have checker at);
}

pub comes_starts : (asked : Losses) (at : CutValue) (checker : CheckerValue) (found : CaseFindings) (held next : List Subtree) (it : Subtree) → ComesTo asked at checker found held → held ≡ it ∷ next → StartsSo at it
comes_starts asked at checker found held next it so is =
    let s = subject_in asked at checker in
    first_starts s asked.tears at it next so.to (subst (λ (ps : List Subtree). ArePieces s asked.tears at ps so.to) is so.rest)

step_of : (asked : Losses) (at : CutValue) (checker : CheckerValue) (found more : CaseFindings) (held next : List Subtree) (it : Subtree) (most : ℕ) (so : ComesTo asked at checker found held) → held ≡ it ∷ next
    → IsStep (subject_in asked at checker) asked.tears at it more most → StepsTo (subject_in asked at checker) asked.tears at next so.to more most
step_of asked at checker found more held next it most so is step =
    step.step next so.to (subst (λ (ps : List Subtree). ArePieces (subject_in asked at checker) asked.tears at ps so.to) is so.rest)

pub comes_numbers : (asked : Losses) (at : CutValue) (checker : CheckerValue) (found more : CaseFindings) (held next : List Subtree) (it : Subtree) (most : ℕ) → ComesTo asked at checker found held
    → held ≡ it ∷ next → IsStep (subject_in asked at checker) asked.tears at it more most → All (λ (f : FailingCase). f.number < more.cases) more.failing.items
comes_numbers asked at checker found more held next it most so is step =
    let one = step_of asked at checker found more held next it most so is step in
    numbers_below (subject_in asked at checker) asked.tears at so.to one.to more one.stretch

pub comes_on : (asked : Losses) (at : CutValue) (checker : CheckerValue) (found more new : CaseFindings) (held next : List Subtree) (it : Subtree) (most left : ℕ) (fits : Bool) → ComesTo asked at checker found held
    → held ≡ it ∷ next → IsStep (subject_in asked at checker) asked.tears at it more most → most + found.cases ≡ left + 1 → JoinsSo found more left new fits → fits ≡ true
    → ComesTo asked at checker new next × (new.cases ≤ left)
comes_on asked at checker found more new held next it most left fits so is step room joins fit =
    let one = step_of asked at checker found more held next it most so is step in
    let own = subst (JoinsSo found more left new) fit joins in
    let low = own.1 in
    let all = own.0.cases in (
      record {
        to = one.to;
        stretch = stretch_on (subject_in asked at checker) asked.tears at (whole_case asked.tears ∷ []) so.to one.to found more new so.stretch one.stretch own.0;
        rest = one.rest (omega (arith, low, room));
      },
      omega (arith, low, all),
    )

pub comes_past : (asked : Losses) (at : CutValue) (checker : CheckerValue) (found more new : CaseFindings) (held next : List Subtree) (it : Subtree) (most left : ℕ) (fits : Bool) → ComesTo asked at checker found held
    → held ≡ it ∷ next → IsStep (subject_in asked at checker) asked.tears at it more most → JoinsSo found more left new fits → fits ≡ false → IsPastOne asked at checker left
comes_past asked at checker found more new held next it most left fits so is step joins unfit =
    let one = step_of asked at checker found more held next it most so is step in
    past_both asked at checker so.to one.to found more left so.stretch one.stretch (subst (JoinsSo found more left new) unfit joins)

pub comes_whole : (asked : Losses) (at : CutValue) (checker : CheckerValue) (found : CaseFindings) (held : List Subtree) → ComesTo asked at checker found held → held ≡ [] → IsFoundAt asked at checker found
comes_whole asked at checker found held so none =
    found_whole asked at checker found so.to (subst (λ (ps : List Subtree). ArePieces (subject_in asked at checker) asked.tears at ps so.to) none so.rest) so.stretch
