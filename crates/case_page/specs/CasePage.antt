-- The page of a run of any number of losses (docs/OUTPUT.md, The page of `page --bound any`): in place of the groups of images the failing cases
-- of each cut, each as a row of the parts at risk.
use Rattle.std.specs.Prelude.{ℕ, ◌+◌, ◌-◌, ◌==◌, ◌&&◌, Bool, if◌then◌else◌, List, [], ◌∷◌, ◌++◌, codes, length, map, take}
use Rattle.std.specs.List.{flat_map}
use Rattle.std.specs.Fmt.{decimal}
use Rattle.logfmt.specs.Bounds.{LogValue}
use Rattle.epochs.specs.declared.part.By.{By}
use Rattle.report.specs.declared.head.ProgramHead.{ProgramHead}
use Rattle.report.specs.Report.{HeadValue}
use Rattle.cases.specs.AtCut.{CutValue}
use Rattle.losses.specs.declared.found.FailingCase.{FailingCase}
use Rattle.losses.specs.declared.found.Losses.{Losses}
use Rattle.losses.specs.declared.found.CutFound.{CutFound}
use Rattle.losses.specs.FoundCases.{failing_value}
use Rattle.case_text.specs.Text.{options_text, count_torn_beyond, count_lost_beyond}
use Rattle.page_parts.specs.declared.pieces.PagePart.TheVariants as piece
use Rattle.page_parts.specs.Pieces.{piece_text}
use Rattle.page_parts.specs.declared.counts.JudgedKind.TheVariants as kind
use Rattle.page_parts.specs.declared.counts.CutCount.{CutCount}
use Rattle.page_parts.specs.Counts.{count_fails}
use Rattle.case_page.specs.Counts.{all_in, failing_in, failing_of, case_count, has_all}
use Rattle.page_parts.specs.declared.cut.Showing.{Showing}
use Rattle.page_parts.specs.declared.judge.PageJudge.TheVariants as judging
use Rattle.case_page.specs.declared.run.CaseRun.{CaseRun}
use Rattle.case_page.specs.declared.case_program.CaseProgram.{CaseProgram}
use Rattle.page_parts.specs.Shares.{legend_text}
use Rattle.page_parts.specs.Lacking.{advice_text}
use Rattle.page_parts.specs.Blocks.{most_cells}
use Rattle.page_parts.specs.Cuts.{cut_begin, cut_body, shown_of, showing, one_failing, unlisted_text}
use Rattle.page_parts.specs.Frame.{title_text, strip_text, most_of_program, about_text, list_text, head_text}
use Rattle.case_page.specs.CaseRows.{case_row}

-- of which log the cases are, what departs as one, and whether parts may be torn
pub record RunValue : Type 0 where
  pub log : LogValue
  pub way : By
  pub tears : Bool

abbrev pub run_of : CaseRun → RunValue
run_of run = record { log = run.log.now; way = run.by; tears = run.tears }

abbrev pub cut_at : RunValue → ℕ → CutValue
cut_at run cut = record { log = run.log; way = run.way; cut = cut }

-- the failing cases of a cut
abbrev pub case_rows : CutValue → Bool → List FailingCase → List ℕ
case_rows at tears failing = flat_map (λ (f : FailingCase). case_row at tears (failing_value f)) failing

-- how many more there are
unfoldable pub rest_text : ℕ → List ℕ
rest_text n = if n == 0 then [] else piece_text piece.RestOpen ++ decimal n ++ piece_text piece.RestCases

-- a cut at which cases fail: its line, and its first cases
unfoldable pub case_head : RunValue → Showing → CutFound → List ℕ
case_head run how c = cut_begin run.log.entries how.is_open (case_count how.program c) ++ cut_body how.program c.cut

unfoldable pub cut_shown : RunValue → Showing → CutFound → List ℕ
cut_shown run how c =
    case_head run how c ++ case_rows (cut_at run c.cut) run.tears (take how.rows (failing_of how.program c))
    ++ rest_text (length (failing_of how.program c) - how.rows) ++ piece_text piece.CutClose

abbrev pub cut_text : RunValue → Showing → CutFound → List ℕ
cut_text run how c = if length (failing_of how.program c) == 0 then [] else cut_shown run how c

-- the cuts of a program, of which that many failing ones may still be listed, and that many cases shown
abbrev pub listed_text : RunValue → ℕ → Showing → CutFound → List ℕ
listed_text run lines how c = if lines == 0 then [] else cut_text run how c

abbrev pub cuts_text : RunValue → ℕ → ℕ → ℕ → List CutFound → List ℕ
cuts_text run program lines left [] = []
cuts_text run program lines left (c ∷ found) =
    listed_text run lines (showing program lines left (length (failing_of program c))) c
    ++ cuts_text run program (lines - one_failing (length (failing_of program c))) (left - shown_of left (length (failing_of program c))) found

-- how many cases fail, at how many cuts
unfoldable pub bad_text : List CutCount → List ℕ
bad_text cs =
    piece_text piece.BadOpen ++ decimal (failing_in cs) ++ piece_text piece.Of ++ decimal (all_in cs) ++ piece_text piece.BadCases ++ decimal (count_fails cs)
    ++ piece_text piece.Of

-- or that none does
unfoldable pub good_text : List CutCount → List ℕ
good_text cs = piece_text piece.GoodCases ++ decimal (all_in cs) ++ piece_text piece.AtCuts

-- or that others were left out, and none of these does
unfoldable pub open_text : List CutCount → List ℕ
open_text cs = piece_text piece.OpenCases ++ decimal (all_in cs) ++ piece_text piece.AtCuts

abbrev pub passing_text : Bool → List CutCount → List ℕ
passing_text complete cs = if complete then good_text cs else open_text cs

unfoldable pub judged_text : Bool → List CutCount → List ℕ
judged_text complete cs = (if failing_in cs == 0 then passing_text complete cs else bad_text cs) ++ decimal (length cs) ++ piece_text piece.GoodClose

-- what a program comes to; without a wanted cut nothing was judged
abbrev pub verdict_text : Bool → List CutCount → List ℕ
verdict_text complete cs = if length cs == 0 then piece_text piece.NoCaseCuts else judged_text complete cs

-- what was found with a program at each cut
abbrev pub counts_of : ℕ → List CutFound → List CutCount
counts_of program found = map (case_count program) found

-- what it comes to, where no case was left out for it or some were, and what flushes would do
unfoldable pub said_text : Bool → ℕ → CaseProgram → List CutCount → List ℕ
said_text complete program p cs = title_text program (judging.Checker p.head) ++ verdict_text complete cs ++ advice_text kind.Cases program p.missing.items p.uncured

-- and the log with its cuts and the flushes that are missing
unfoldable pub summary_text : RunValue → Bool → ℕ → CaseProgram → List CutCount → List ℕ
summary_text run complete program p cs =
    said_text complete program p cs ++ strip_text kind.Cases run.log.entries program p.missing.items cs ++ legend_text kind.Cases ++ piece_text piece.CaseKeys

-- the first cuts at which cases fail, and how many more there are
unfoldable pub shown_cuts : RunValue → ℕ → List CutFound → List ℕ
shown_cuts run program found =
    cuts_text run program most_cells (most_of_program run.log.entries) found
    ++ unlisted_text kind.Cases program (count_fails (counts_of program found) - most_cells)

-- a program
unfoldable pub program_text : RunValue → List CutFound → ℕ → CaseProgram → List ℕ
program_text run found program p =
    summary_text run (has_all program found) program p (counts_of program found) ++ shown_cuts run program found ++ piece_text piece.SectionClose

-- programs, of which the first has that number
abbrev pub programs_text : RunValue → List CutFound → ℕ → List CaseProgram → List ℕ
programs_text run found program [] = []
programs_text run found program (p ∷ ps) = program_text run found program p ++ programs_text run found (program + 1) ps

-- how many cases were left out, where some were
abbrev pub is_complete : ℕ → ℕ → Bool
is_complete torn lost = (torn == 0) && (lost == 0)

unfoldable pub left_counts : ℕ → ℕ → List ℕ
left_counts torn lost = piece_text piece.TornBeyond ++ decimal torn ++ piece_text piece.LostBeyond ++ decimal lost

abbrev pub left_text : ℕ → ℕ → List ℕ
left_text torn lost = if is_complete torn lost then [] else left_counts torn lost ++ codes "\n"

-- the options and the programs as the text of cases has them, and how many cases were left out
abbrev pub run_text : HeadValue → Losses → List CutFound → List ℕ
run_text h asked found = options_text h asked ++ left_text (count_torn_beyond found) (count_lost_beyond found)

-- the page: the log, the text about the run, what was found with each program, and the entries
unfoldable pub parts_text : RunValue → List ℕ → List CaseProgram → List CutFound → List ℕ
parts_text run about ps found =
    head_text kind.Cases run.log ++ about_text about ++ programs_text run found 0 ps ++ list_text run.log.entries ++ piece_text piece.Closing

-- the run of a head, and of what was asked of a log
abbrev pub run_with : HeadValue → Losses → LogValue → RunValue
run_with h asked log = record { log = log; way = h.by; tears = asked.tears }

abbrev pub case_page_text : HeadValue → Losses → LogValue → List CaseProgram → List CutFound → List ℕ
case_page_text h asked log ps found = parts_text (run_with h asked log) (run_text h asked found) ps found
