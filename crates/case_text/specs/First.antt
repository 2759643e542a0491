-- The text of the first failing case alone (docs/OUTPUT.md, The text of cases). It begins as the text of all failing cases does, up to and
-- with its first line of a case, but has no number of the inputs. Its last line names that case again, and says nothing of any other.
use Rattle.std.specs.Prelude.{ℕ, List, ◌++◌, codes}
use Rattle.std.specs.Fmt.{decimal}
use Rattle.logfmt.specs.Bounds.{LogValue}
use Rattle.report.specs.Report.{HeadValue}
use Rattle.losses.specs.declared.found.FirstCase.{FirstCase}
use Rattle.losses.specs.declared.found.Losses.{Losses}
use Rattle.losses.specs.FoundCases.{failing_value}
use Rattle.case_text.specs.Text.{head_text, case_line}

-- the last line
unfoldable pub first_text : ℕ → ℕ → ℕ → List ℕ
first_text cut program number = codes "first cut " ++ decimal cut ++ codes " program " ++ decimal program ++ codes " case " ++ decimal number ++ codes "\n"

-- the text
unfoldable pub first_bytes : HeadValue → Losses → LogValue → FirstCase → List ℕ
first_bytes h asked log first =
    head_text h asked ++ case_line (record { log = log; way = h.by; cut = first.cut }) asked.tears first.program (failing_value first.case)
    ++ first_text first.cut first.program first.case.number
