-- What is said of a program of a report.
use Rattle.std.proofs.Common.{ℕ, ◌≡◌, ◌≢◌, ◌<◌, ◌++◌, Bool, true, false, List, [], Bor, codes, length, slice_get, Some, refl, sym, ◌∙◌, ap, subst}
use Rattle.choices.specs.Sums.{StartsValue}
use Rattle.report.specs.declared.head.ProgramHead.{ProgramHead}
use Rattle.losses.specs.declared.cure.failure.Failure.{Failure}
use Rattle.losses.specs.FailureWindows.{AreFailuresAt}
use Rattle.crash_page.specs.declared.program.ProgramFailures.{ProgramFailures}
use Rattle.page_parts.specs.declared.judge.PageJudge.TheVariants as judging
use Rattle.page_parts.specs.Judges.{judge_text}
use Rattle.crash_page.specs.Page.{page_text}
use Rattle.crash_page.specs.Failing.{IsFailing, AreFailing}
use Rattle.crash_page.proofs.Owned.{page_told}
use Rattle.join.specs.Given.{ToldLine, GivenValue, IsOwn, AreJudges, judge_count, marks_told}
use Rattle.join.proofs.Texts.{cancel}
use Rattle.retold.specs.Told.{HasHead, IsOwnHead, NoOwnHead, IsSaid, of_checker, of_own, TellsPage, count_of, images_told_of, outcomes_told_of}

pub no_options_no_head : (options head : List ℕ) → ((rest : List ℕ) → head ≢ options ++ rest) → NoOwnHead options head
no_options_no_head options head none = record { none = λ words own. none (codes "program 0 outside " ++ (words ++ codes "\n")) own.is }

pub no_program_no_head : (options head programs : List ℕ) → head ≡ options ++ programs → ((rest : List ℕ) → programs ≢ codes "program 0 outside " ++ rest) → NoOwnHead options head
no_program_no_head options head programs is none = record {
  none = λ words own. none (words ++ codes "\n") (cancel options programs (codes "program 0 outside " ++ (words ++ codes "\n")) (sym is ∙ own.is));
}

pub no_newline_no_head : (options head programs line : List ℕ) → head ≡ options ++ programs → programs ≡ codes "program 0 outside " ++ line → ((front : List ℕ) → line ≢ front ++ codes "\n")
    → NoOwnHead options head
no_newline_no_head options head programs line is begins none = record {
  none = λ words own. none words
      (cancel (codes "program 0 outside ") line (words ++ codes "\n") (sym begins ∙ cancel options programs (codes "program 0 outside " ++ (words ++ codes "\n")) (sym is ∙ own.is)));
}

pub own_head : (options head programs line words : List ℕ) → head ≡ options ++ programs → programs ≡ codes "program 0 outside " ++ line → line ≡ words ++ codes "\n" → IsOwnHead options words head
own_head options head programs line words is begins ends = record {
  is = is ∙ ap (λ (bs : List ℕ). options ++ bs) (begins ∙ ap (λ (bs : List ℕ). codes "program 0 outside " ++ bs) ends);
}

-- the report of such a program has its head
pub own_there : (options : List ℕ) (g : GivenValue) → HasHead options g → g.outside ≡ true → NoOwnHead options g.head → ⊥
own_there options g h outside lacks =
    let own : IsOwn g.programs h.judges = subst (λ (b : Bool). AreJudges b g.programs h.judges) outside h.are in
    lacks.none own.words (record { is = h.head ∙ ap (λ (bs : List ℕ). options ++ bs) own.is })

pub said_own : (options : List ℕ) (g : GivenValue) (program : ℕ) (words : Bor (List ℕ)) → g.outside ≡ true → IsOwnHead options words.now g.head → IsSaid options g program (judge_text (judging.Outside words))
said_own options g program words outside head = of_own words.now outside head refl

pub said_checker : (options : List ℕ) (g : GivenValue) (program : ℕ) (programs : List ProgramHead) (head : ProgramHead) → g.outside ≡ false → programs ≡ g.programs → slice_get programs program ≡ Some head
    → IsSaid options g program (judge_text (judging.Checker head))
said_checker options g program programs head outside same there = of_checker head outside (subst (λ (ps : List ProgramHead). slice_get ps program ≡ Some head) same there) refl

-- a checker is one of those of the report
pub checker_there : (g : GivenValue) (program : ℕ) (programs : List ProgramHead) → g.outside ≡ false → programs ≡ g.programs → program < count_of g → program < length programs
checker_there g program programs outside same there =
    subst (λ (ps : List ProgramHead). program < length ps) (sym same) (subst (λ (b : Bool). program < judge_count b g.programs) outside there)

-- the whole page
pub page_is : (options : List ℕ) (s : StartsValue) (g : GivenValue) (ts : List ToldLine) (fs : List Failure) (count : ℕ) (none given all : List ℕ) (now programs : List ProgramFailures) (bytes : List ℕ)
    → ts ≡ g.lines → count ≡ count_of g → AreFailuresAt s (marks_told ts) fs
    → AreFailing s (IsSaid options g) (λ (program : ℕ). images_told_of program ts) (λ (program : ℕ). outcomes_told_of program ts) fs count programs
    → none ≡ [] → given ≡ g.head ++ g.last → now ≡ programs → all ≡ none ++ page_text given s now → bytes ≡ all → TellsPage options s g bytes
page_is options s g ts fs count none given all now programs bytes lines many failures are empty about same page is =
    let by_lines = subst (λ (us : List ToldLine). AreFailing s (IsSaid options g) (λ (program : ℕ). images_told_of program us) (λ (program : ℕ). outcomes_told_of program us) fs count programs) lines are in
    let by_count = subst (λ (n : ℕ). AreFailing s (IsSaid options g) (λ (program : ℕ). images_told_of program g.lines) (λ (program : ℕ). outcomes_told_of program g.lines) fs n programs) many by_lines in
    record {
      failures = fs;
      are_failures = subst (λ (us : List ToldLine). AreFailuresAt s (marks_told us) fs) lines failures;
      page =
          page_told (g.head ++ g.last) s (IsSaid options g) (λ (program : ℕ). images_told_of program g.lines) (λ (program : ℕ). outcomes_told_of program g.lines) fs (count_of g) none given all now programs bytes
          empty about by_count same page is;
    }

-- the text at its head
pub about_is : (g : GivenValue) (none begun all : List ℕ) → none ≡ [] → begun ≡ none ++ g.head → all ≡ begun ++ g.last → all ≡ g.head ++ g.last
about_is g none begun all empty begins ends = ends ∙ ap (λ (bs : List ℕ). bs ++ g.last) (begins ∙ ap (λ (bs : List ℕ). bs ++ g.head) empty)

-- what fails of a program, of the same images and what it ends in on them
pub failing_so : (t s : StartsValue) (ns ms : List ℕ) (os ps : List (List ℕ)) (program : ℕ) (fs : List Failure) (f : ProgramFailures) → t ≡ s → ns ≡ ms → os ≡ ps
    → IsFailing t ns os program fs f → IsFailing s ms ps program fs f
failing_so t s ns ms os ps program fs f run images ends is =
    subst (λ (x : StartsValue). IsFailing x ms ps program fs f) run
    (subst (λ (x : List (List ℕ)). IsFailing t ms x program fs f) ends
    (subst (λ (x : List ℕ). IsFailing t x os program fs f) images is))
