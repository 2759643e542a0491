-- Answers of workers, as they are put in their places.
use Rattle.std.proofs.Common.{◌≡◌, ◌∷◌, List, Option, None, Result, IfOk, IfSome, All, Vec, Global, sym, subst}
use Rattle.std.specs.declared.alloc.AllocError.{AllocError}
use Rattle.std.proofs.lemmas.List.Elements.{All-head, All-same, All-weaker}
use Rattle.case_runs.specs.declared.work.CaseWork.{CaseWork}
use Rattle.case_runs.specs.declared.pieces.SubtreeAnswer.{SubtreeAnswer}
use Rattle.case_runs.specs.Shares.{IsAnswer, AreAnswers}

-- what a worker comes back with: answers, or no memory
abbrev pub AreFoundSo : CaseWork → Result (Vec SubtreeAnswer Global) AllocError → Type 0
AreFoundSo work found = IfOk found (λ answers. All (IsAnswer work) answers.items)

pub none_answered : (work : CaseWork) (places : List (Option SubtreeAnswer)) → All (λ place. place ≡ None) places → AreAnswers work places
none_answered work places none =
    All-weaker (λ (p : Option SubtreeAnswer). p ≡ None) (λ (p : Option SubtreeAnswer). IfSome p (IsAnswer work)) (λ p is. subst (λ (q : Option SubtreeAnswer). IfSome q (IsAnswer work)) (sym is) tt) places none

pub found_next : (work : CaseWork) (one : Result (Vec SubtreeAnswer Global) AllocError) (rest all : List (Result (Vec SubtreeAnswer Global) AllocError)) → all ≡ one ∷ rest → All (AreFoundSo work) all
    → AreFoundSo work one
found_next work one rest all steps found = All-head (AreFoundSo work) one rest (All-same (AreFoundSo work) (one ∷ rest) all (sym steps) found)
