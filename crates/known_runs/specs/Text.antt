-- The text of the cases that records tell (docs/OUTPUT.md, Records of a program of yours). Each line ends with one newline; numbers are decimal.
use Rattle.std.specs.Prelude.{ℕ, Bool, List, [], ◌++◌, length, Option, None, Some, codes}
use Rattle.std.specs.Fmt.{decimal}
use Rattle.std.specs.List.{flat_map}
use Rattle.logfmt.specs.Bounds.{LogValue}
use Rattle.epochs.specs.declared.part.By.{By}
use Rattle.epochs.specs.Units.{epoch_at, marks_at}
use Rattle.cases.specs.AtCut.{CutValue, parts_of, case_of}
use Rattle.report.specs.Report as report
use Rattle.losses.specs.declared.found.Losses.{Losses}
use Rattle.case_text.specs.Known.{known_of}
use Rattle.case_text.specs.Window.{case_window}
use Rattle.case_text.specs.Text.{opening_text, options_text, place_text, number_text, known_text, window_text, are_all_cuts}
use Rattle.known.specs.declared.run.RunEnd.{RunEnd}
use Rattle.known.specs.declared.run.RunEnd.TheVariants.{Answer, Signal, OutOfTime}
use Rattle.known.specs.declared.found.KnownAt.{KnownAt}
use Rattle.known.specs.declared.found.KnownFailing.{KnownFailing}
use Rattle.known_text.specs.Texts.{HeadValue}
use Rattle.known_runs.specs.Totals.{totals_of, totals_text}

-- how a program ended, in words
abbrev pub end_words : RunEnd → List ℕ
end_words (Answer answer) = codes "answer " ++ decimal answer ++ codes " codes -"
end_words (Signal signal) = codes "signal " ++ decimal signal
end_words OutOfTime = codes "out of time"

-- a failing case at a cut
unfoldable pub case_line : CutValue → Bool → KnownFailing → List ℕ
case_line at tears f =
    place_text at.cut (epoch_at at.log.entries at.cut) (marks_at at.log.entries at.cut) ++ number_text 0 f.number ++ end_words f.end
    ++ known_text at.way (known_of tears (case_of tears (parts_of at) f.sets.items) (parts_of at))
    ++ window_text (case_window at (case_of tears (parts_of at) f.sets.items)) ++ codes "\n"

-- those of a cut
abbrev pub cut_lines : LogValue → By → Bool → KnownAt → List ℕ
cut_lines log way tears found = flat_map (case_line (record { log = log; way = way; cut = found.cut }) tears) found.failing.items

-- the program of the records, and the sum that who judges made, where there are records
abbrev pub program_text : Option HeadValue → List ℕ
program_text None = []
program_text (Some h) = codes "program 0 outside " ++ h.words ++ codes "\nsum " ++ h.sum ++ codes "\n"

-- what stands before the lines of the cases
abbrev pub opening_lines : ℕ → report.HeadValue → Losses → List ℕ
opening_lines inputs h asked = opening_text (Some inputs) ++ options_text h asked

-- the lines of the cases, and the last line
abbrev pub found_lines : report.HeadValue → Losses → LogValue → List KnownAt → List ℕ
found_lines h asked log found = flat_map (cut_lines log h.by asked.tears) found ++ totals_text (are_all_cuts h.cuts) (length found) (totals_of found)

-- the text
abbrev pub known_bytes : ℕ → report.HeadValue → Losses → Option HeadValue → LogValue → List KnownAt → List ℕ
known_bytes inputs h asked by log found = opening_lines inputs h asked ++ program_text by ++ found_lines h asked log found
