-- What was begun, as rounds go on.
use Rattle.std.proofs.Common.{ℕ, ◌≡◌, Bool, true, false, if◌then◌else◌, List, [], ◌∷◌, ◌++◌, length, map, slice_get, Some, refl, sym, subst, ◌∙◌, ap, append_assoc}
use Rattle.std.proofs.lemmas.List.{append-nil}
use Rattle.std.proofs.lemmas.Option.{same_Some}
use Rattle.checker.specs.Checker.{CheckerValue}
use Rattle.cases.specs.Cases.{Case, whole_case}
use Rattle.cases.specs.AtCut.{CutValue, parts_of, case_of}
use Rattle.cases.specs.Trees.{Subject}
use Rattle.losses.specs.declared.found.CaseFindings.{CaseFindings}
use Rattle.case_runs.specs.declared.work.CaseWork.{CaseWork}
use Rattle.case_runs.specs.declared.pieces.Start.{Start}
use Rattle.case_runs.specs.declared.pieces.Subtree.{Subtree}
use Rattle.case_runs.specs.declared.pieces.Subtree.TheVariants as piece
use Rattle.case_runs.specs.declared.pieces.SubtreeAnswer.{SubtreeAnswer}
use Rattle.case_runs.specs.declared.pieces.Ran.{Ran}
use Rattle.case_runs.specs.Pieces.{subject_in, start_case, IsStart, ArePieces, RanFrom, told_as, open_as, open_at}
use Rattle.case_runs.specs.Shares.{cut_in, AreOf, AreAllOf, AreBelow, IsAnswer, HaveSame}
use Rattle.case_runs.proofs.Piecing.{put_in, pieces_ran}

inner_starts : (s : Subject) (tears : Bool) (at : CutValue) (out rest : List Subtree) (start : Start) (cs : List Case) → ArePieces s tears at (out ++ (piece.Open start ∷ rest)) cs → IsStart at start
inner_starts s tears at [] rest start cs it = it.2
inner_starts s tears at (piece.Told found ∷ out) rest start cs it = inner_starts s tears at out rest start it.0 it.2
inner_starts s tears at (piece.Open first ∷ out) rest start cs it = inner_starts s tears at out rest start it.0 it.3

pub same_told : (work : CaseWork) (cut program : ℕ) (out new : List Subtree) (found : CaseFindings) → new ≡ out ++ told_as found ∷ [] → (rest : List Subtree) → HaveSame work cut program (out ++ (told_as found ∷ rest)) (new ++ rest)
same_told work cut program out new found is rest = record {
  same = λ c from at own.
      subst (λ (ps : List Subtree). AreOf work cut c ps from) (sym (append_assoc out (told_as found ∷ []) rest) ∙ ap (λ (xs : List Subtree). xs ++ rest) (sym is)) own;
}

pub same_below : (work : CaseWork) (cut program : ℕ) (out pieces new : List Subtree) (start : Start) → new ≡ out ++ pieces → AreBelow work cut program start pieces
    → (rest : List Subtree) → HaveSame work cut program (out ++ (open_as start ∷ rest)) (new ++ rest)
same_below work cut program out pieces new start is below rest = record {
  same = λ c from at own.
      let s = subject_in work.asked (cut_in work cut) c in
      let starts = inner_starts s work.asked.tears (cut_in work cut) out rest start from own in
      subst (λ (ps : List Subtree). AreOf work cut c ps from) (sym (append_assoc out pieces rest) ∙ ap (λ (xs : List Subtree). xs ++ rest) (sym is))
      (put_in s work.asked.tears (cut_in work cut) out pieces rest start from own (below.have c at starts));
}

pub same_begin : (work : CaseWork) (cut program : ℕ) (pieces held out : List Subtree) → held ≡ pieces → out ≡ [] → HaveSame work cut program pieces (out ++ held)
same_begin work cut program pieces held out is none = record {
  same = λ c from at own. subst (λ (ps : List Subtree). AreOf work cut c ps from) (sym is ∙ ap (λ (xs : List Subtree). xs ++ held) (sym none)) own;
}

pub same_next : (work : CaseWork) (cut program : ℕ) (pieces out held next new : List Subtree) (it : Subtree) → HaveSame work cut program pieces (out ++ held) → held ≡ it ∷ next
    → HaveSame work cut program (out ++ (it ∷ next)) (new ++ next) → HaveSame work cut program pieces (new ++ next)
same_next work cut program pieces out held next new it was is on = record {
  same = λ c from at own. on.same c from at (subst (λ (hs : List Subtree). AreOf work cut c (out ++ hs) from) is (was.same c from at own));
}

pub same_end : (work : CaseWork) (cut program : ℕ) (pieces out held : List Subtree) → HaveSame work cut program pieces (out ++ held) → held ≡ [] → AreAllOf work cut program pieces → AreAllOf work cut program out
same_end work cut program pieces out held was none all = record {
  have = λ c at.
      subst (λ (ps : List Subtree). AreOf work cut c ps (whole_case work.asked.tears ∷ [])) (ap (λ (hs : List Subtree). out ++ hs) none ∙ append-nil out)
      (was.same c (whole_case work.asked.tears ∷ []) at (all.have c at));
}

-- a piece that stays open
pub stays_open : (work : CaseWork) (cut program : ℕ) (start : Start) (pieces : List Subtree) → pieces ≡ open_as start ∷ [] → AreBelow work cut program start pieces
stays_open work cut program start pieces is = record {
  have = λ c at starts. subst (λ (ps : List Subtree). AreOf work cut c ps (start_case work.asked.tears (cut_in work cut) start ∷ [])) (sym is) ([], refl, starts, refl);
}

-- all choices of a cut
pub whole_open : (work : CaseWork) (cut program : ℕ) (start : Start) (pieces : List Subtree) → start.whole ≡ true → pieces ≡ open_as start ∷ [] → AreAllOf work cut program pieces
whole_open work cut program start pieces whole is = record {
  have = λ c at.
      subst (λ (ps : List Subtree). AreOf work cut c ps (whole_case work.asked.tears ∷ [])) (sym is)
      ([], (λ i. by (sym whole i) ∷ []), (λ none. absurd (let bad : true ≡ false = sym whole ∙ none in cc)), refl);
}
  where
    by : Bool → Case
    by b = if b then whole_case work.asked.tears else case_of work.asked.tears (parts_of (cut_in work cut)) start.sets.items

-- the answer for a start
pub same_answer : (work : CaseWork) (cut program : ℕ) (start : Start) (answer : SubtreeAnswer) → answer.cut ≡ cut → answer.program ≡ program → answer.start.whole ≡ start.whole
    → answer.start.sets.items ≡ start.sets.items → IsAnswer work answer → AreBelow work cut program start answer.pieces.items
same_answer work cut program start answer at_cut own whole sets is = record {
  have = λ c at starts.
      let moved : (k n : ℕ) → k ≡ cut → n ≡ program → AreBelow work k n answer.start answer.pieces.items → AreBelow work cut program answer.start answer.pieces.items =
      λ k n one other below. subst (λ m. AreBelow work cut m answer.start answer.pieces.items) other (subst (λ m. AreBelow work m n answer.start answer.pieces.items) one below) in
      let below = moved answer.cut answer.program at_cut own is in
      let begins : IsStart (cut_in work cut) answer.start = λ part. ap length sets ∙ starts (sym whole ∙ part) in
      subst (λ (k : Case). AreOf work cut c answer.pieces.items (k ∷ []))
      (λ i. if whole i then whole_case work.asked.tears else case_of work.asked.tears (parts_of (cut_in work cut)) (sets i)) (below.have c at begins);
}

-- what a run below a start came to
pub answer_told : (work : CaseWork) (cut program most : ℕ) (at : CutValue) (checker : CheckerValue) (start copy : Start) (ran : Ran) (pieces : List Subtree) → at ≡ cut_in work cut
    → slice_get work.checkers.now program ≡ Some checker → copy.whole ≡ start.whole → copy.sets.items ≡ start.sets.items
    → RanFrom work.asked at checker most (start_case work.asked.tears at start ∷ []) ran → pieces ≡ told_as ran.found ∷ map open_at ran.left.items → AreBelow work cut program copy pieces
answer_told work cut program most at checker start copy ran pieces here own whole sets so is = record {
  have = λ c there starts.
      let same : Some checker ≡ Some c = sym own ∙ there in
      let all : AreOf work cut checker pieces (start_case work.asked.tears (cut_in work cut) start ∷ []) =
      subst (λ (k : CutValue). ArePieces (subject_in work.asked k checker) work.asked.tears k pieces (start_case work.asked.tears k start ∷ [])) here
      (pieces_ran work.asked at checker most (start_case work.asked.tears at start ∷ []) ran pieces so is) in
      subst (λ (d : CheckerValue). AreOf work cut d pieces (start_case work.asked.tears (cut_in work cut) copy ∷ [])) (same_Some checker c same)
      (subst (λ (k : Case). AreOf work cut checker pieces (k ∷ []))
      (sym (λ i. if whole i then whole_case work.asked.tears else case_of work.asked.tears (parts_of (cut_in work cut)) (sets i))) all);
}
