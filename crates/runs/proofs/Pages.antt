-- The page of a run, of the marks and of the failing lines.
use Rattle.std.proofs.Common.{ℕ, ◌≡◌, false, List, [], ◌++◌, ◌∙◌, ap, subst}
use Rattle.logfmt.specs.Bounds.{LogValue}
use Rattle.choices.specs.Sums.{StartsValue}
use Rattle.checker.specs.Checker.{CheckerValue}
use Rattle.report.specs.declared.lines.marks.LineMark.{LineMark}
use Rattle.report.specs.Line.{FailingLine}
use Rattle.report.specs.Marks.{marks_of}
use Rattle.report.specs.Report.{HeadValue, options_text, totals_line}
use Rattle.losses.specs.declared.cure.failure.Failure.{Failure}
use Rattle.crash_page.specs.declared.program.ProgramFailures.{ProgramFailures}
use Rattle.crash_page.specs.Failing.{IsFailing}
use Rattle.workers.specs.Failing.{failing_lines}
use Rattle.request.specs.declared.settings.Settings.{Settings}
use Rattle.runs.specs.Explore.{subject_of, head_of}
use Rattle.runs.specs.Why.{images_failing, starts_of, PageOfLines, with_first}
use Rattle.runs.specs.Marked.{images_marked}
use Rattle.runs.specs.Paged.{IsPageOf, about_run}
use Rattle.runs.proofs.Explained.{marked_are_failing}

-- the text at the head of a page
pub about_told : (h : HeadValue) (ls : List FailingLine) (images : ℕ) (none options all : List ℕ) → none ≡ [] → options ≡ none ++ options_text h
    → all ≡ options ++ totals_line images ls → images ≡ h.images → all ≡ about_run h ls
about_told h ls images none options all empty begins ends same =
    ends
    ∙ ap (λ (i : ℕ). options ++ totals_line i ls) same
    ∙ ap (λ (bs : List ℕ). bs ++ totals_line h.images ls) (begins ∙ ap (λ (bs : List ℕ). bs ++ options_text h) empty)

-- the page by marks is that by the failing lines
pub page_of_lines : (s : Settings) (value : LogValue) (checkers : List CheckerValue) (head : HeadValue) (starts : StartsValue) (ls : List FailingLine) (ms : List LineMark) (bytes : List ℕ)
    → head ≡ head_of (with_first false s) value checkers → starts ≡ starts_of s value → ls ≡ failing_lines (subject_of s value checkers) → ms ≡ marks_of ls
    → IsPageOf head starts (images_marked ms) ls bytes → PageOfLines s value checkers (failing_lines (subject_of s value checkers)) bytes
page_of_lines s value checkers head starts ls ms bytes heads is found marks tells =
    let failing : images_marked ms ≡ (λ program. images_failing program ls) =
    λ i program. (ap (λ (ks : List LineMark). images_marked ks program) marks ∙ marked_are_failing program ls) i in
    subst (λ (fs : List FailingLine). IsPageOf (head_of (with_first false s) value checkers) (starts_of s value) (λ program. images_failing program fs) fs bytes) found
    (subst (λ (t : StartsValue). IsPageOf (head_of (with_first false s) value checkers) t (λ program. images_failing program ls) ls bytes) is
    (subst (λ (h : HeadValue). IsPageOf h starts (λ program. images_failing program ls) ls bytes) heads
    (subst (λ (f : ℕ → List ℕ). IsPageOf head starts f ls bytes) failing tells)))

-- what fails of a program, of the same images and what it ends in on them
pub failing_so : (t s : StartsValue) (ns ms : List ℕ) (os ps : List (List ℕ)) (program : ℕ) (fs : List Failure) (f : ProgramFailures) → t ≡ s → ns ≡ ms → os ≡ ps
    → IsFailing t ns os program fs f → IsFailing s ms ps program fs f
failing_so t s ns ms os ps program fs f run images ends is =
    subst (λ (x : StartsValue). IsFailing x ms ps program fs f) run
    (subst (λ (x : List (List ℕ)). IsFailing t ms x program fs f) ends
    (subst (λ (x : List ℕ). IsFailing t x os program fs f) images is))
