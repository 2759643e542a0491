-- The page of a run (docs/OUTPUT.md, The page of `page`).
use Rattle.std.specs.Prelude.{ℕ, ◌≡◌, List, ◌++◌, length, slice_get, Some}
use Rattle.choices.specs.Sums.{StartsValue}
use Rattle.report.specs.Line.{FailingLine}
use Rattle.losses.specs.declared.cure.failure.Failure.{Failure}
use Rattle.losses.specs.FailureWindows.{AreFailures}
use Rattle.losses.specs.ProgramOutcomes.{outcomes_failing}
use Rattle.report.specs.declared.head.ProgramHead.{ProgramHead}
use Rattle.report.specs.Report.{HeadValue, options_text, totals_line}
use Rattle.page_parts.specs.Judges.{checker_text}
use Rattle.crash_page.specs.Failing.{IsPage}

-- this is said of the checker of that number
pub record IsSaid (heads : List ProgramHead) (program : ℕ) (text : List ℕ) : Type 0 where
  pub head : ProgramHead
  pub there : slice_get heads program ≡ Some head
  pub is : text ≡ checker_text head

-- the text about a run: the options and the programs, and the totals of the report
abbrev pub about_run : HeadValue → List FailingLine → List ℕ
about_run h ls = options_text h ++ totals_line h.images ls

-- the bytes are the page of the failing lines
pub record IsPageOf (h : HeadValue) (s : StartsValue) (failing : ℕ → List ℕ) (ls : List FailingLine) (bytes : List ℕ) : Type 0 where
  pub failures : List Failure
  pub are_failures : AreFailures s.plan.by s.plan.log.entries ls failures
  pub page : IsPage (about_run h ls) s (IsSaid h.programs) failing (λ (program : ℕ). outcomes_failing program ls) failures (length h.programs) bytes
