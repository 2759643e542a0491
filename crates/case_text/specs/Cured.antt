-- What a run of cases says of its cure (docs/OUTPUT.md, The text of `cure`, 'With `--bound any`'). Each line ends with one newline.
use Rattle.std.specs.Prelude.{ℕ, Bool, if◌then◌else◌, List, [], ◌∷◌, ◌++◌, length, slice_get, Option, None, Some, is_none, codes}
use Rattle.std.specs.List.{flat_map}
use Rattle.logfmt.specs.Bounds.{LogValue}
use Rattle.epochs.specs.declared.part.By.{By}
use Rattle.report.specs.Report.{HeadValue}
use Rattle.losses.specs.declared.flushes.window.Window.{Window}
use Rattle.losses.specs.declared.cure.failure.Failure.{Failure}
use Rattle.losses.specs.CureText.{programs_text}
use Rattle.cases.specs.AtCut.{CutValue, parts_of, case_of}
use Rattle.losses.specs.declared.found.FailingCase.{FailingCase}
use Rattle.losses.specs.declared.found.Losses.{Losses}
use Rattle.losses.specs.declared.found.CaseFindings.{CaseFindings}
use Rattle.losses.specs.declared.found.CutFound.{CutFound}
use Rattle.losses.specs.FoundCases.{FailingValue, failing_value}
use Rattle.case_text.specs.Window.{case_window}
use Rattle.case_text.specs.Text.{options_text, case_line}
use Rattle.case_text.specs.Why.{by_program, all_failures}

-- a line, where there is no window
abbrev pub line_without : Option Window → List ℕ → List (List ℕ)
line_without window line = if is_none window then line ∷ [] else []

-- the line of a failing case, where it has no window
abbrev pub uncured_line : CutValue → Bool → ℕ → FailingValue → List (List ℕ)
uncured_line at tears program f = line_without (case_window at (case_of tears (parts_of at) f.sets)) (case_line at tears program f)

-- those of a program
abbrev pub program_uncured : CutValue → Bool → ℕ → List FailingCase → List (List ℕ)
program_uncured at tears program failing = flat_map (λ (f : FailingCase). uncured_line at tears program (failing_value f)) failing

abbrev pub found_uncured : CutValue → Bool → ℕ → CaseFindings → List (List ℕ)
found_uncured at tears program found = program_uncured at tears program found.failing.items

-- those of a cut
abbrev pub cut_uncured : LogValue → By → Bool → CutFound → List (List ℕ)
cut_uncured log way tears found = by_program (found_uncured (record { log = log; way = way; cut = found.cut }) tears) 0 found.programs.items

-- those of all cuts, in their order
abbrev pub all_uncured : LogValue → By → Bool → List CutFound → List (List ℕ)
all_uncured log way tears found = flat_map (cut_uncured log way tears) found

-- a line that no flush takes away, if there is one
abbrev pub none_text : Option (List ℕ) → List ℕ
none_text None = []
none_text (Some line) = codes "no flush cures " ++ line

-- how the text begins: title, options and programs, on how many cases each program fails, and the first that has no window
unfoldable pub begin_text : HeadValue → Losses → List Failure → Option (List ℕ) → List ℕ
begin_text h asked failures first = codes "crash cure cases 1\n" ++ options_text h asked ++ programs_text (length h.programs) failures ++ none_text first

abbrev pub cure_begin : HeadValue → Losses → LogValue → List CutFound → List ℕ
cure_begin h asked log found = begin_text h asked (all_failures log h.by asked.tears found) (slice_get (all_uncured log h.by asked.tears found) 0)
