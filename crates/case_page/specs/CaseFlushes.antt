-- The flushes that are missing for the failing cases of a program, and the page that shows them (docs/OUTPUT.md, The page of `page --bound any`).
use Rattle.std.specs.Prelude.{ℕ, ◌≡◌, List, length, filter, slice_get, Some}
use Rattle.std.specs.List.{flat_map}
use Rattle.logfmt.specs.Bounds.{LogValue}
use Rattle.report.specs.declared.head.ProgramHead.{ProgramHead}
use Rattle.report.specs.Report.{HeadValue}
use Rattle.losses.specs.declared.cure.failure.Failure.{Failure}
use Rattle.losses.specs.FailureWindows.{windows_in}
use Rattle.losses.specs.Counted.{AreMissing}
use Rattle.losses.specs.CureText.{is_uncured}
use Rattle.losses.specs.declared.found.Losses.{Losses}
use Rattle.losses.specs.declared.found.CutFound.{CutFound}
use Rattle.case_text.specs.Why.{program_failures}
use Rattle.case_page.specs.declared.case_program.CaseProgram.{CaseProgram}
use Rattle.case_page.specs.Counts.{failing_of}
use Rattle.case_page.specs.CasePage.{RunValue, cut_at, run_with, case_page_text}

-- the failing cases of a program at a cut, as the failures of a run of this program alone
abbrev pub failures_at : RunValue → ℕ → CutFound → List Failure
failures_at run program c = program_failures (cut_at run c.cut) run.tears 0 (failing_of program c)

-- those of all cuts
abbrev pub failures_of : RunValue → ℕ → List CutFound → List Failure
failures_of run program found = flat_map (failures_at run program) found

-- What a page has of the program of that number: what the report says of it, the flushes that are missing for its failing cases, and how many
-- of these no flush takes away.
pub record IsLacking (run : RunValue) (found : List CutFound) (heads : List ProgramHead) (program : ℕ) (p : CaseProgram) : Type 0 where
  pub head : slice_get heads program ≡ Some p.head
  pub missing : AreMissing (windows_in (failures_of run program found)) p.missing.items
  pub uncured : p.uncured ≡ length (filter (is_uncured 0) (failures_of run program found))

-- the same of that many programs
pub record AreLacking (run : RunValue) (found : List CutFound) (heads : List ProgramHead) (count : ℕ) (ps : List CaseProgram) : Type 0 where
  pub all : length ps ≡ count
  pub each : (program : ℕ) (p : CaseProgram) → slice_get ps program ≡ Some p → IsLacking run found heads program p

-- the bytes are the page of what was found
pub record IsCasePage (h : HeadValue) (asked : Losses) (log : LogValue) (found : List CutFound) (bytes : List ℕ) : Type 0 where
  pub programs : List CaseProgram
  pub are : AreLacking (run_with h asked log) found h.programs (length h.programs) programs
  pub page : bytes ≡ case_page_text h asked log programs found
