-- The text of why cases fail, cut by cut, and which flushes are missing (docs/OUTPUT.md, The text of `why`, 'With `--bound any`'). Each line
-- ends with one newline; numbers are decimal.
use Rattle.std.specs.Prelude.{ℕ, ◌+◌, ◌==◌, ◌≡◌, Bool, if◌then◌else◌, List, [], ◌∷◌, ◌++◌, length, map, take, drop, slice_get, Option, bytes_eq, codes}
use Rattle.std.specs.Fmt.{decimal}
use Rattle.std.specs.List.{flat_map, list_any, range_with_len}
use Rattle.std.specs.Option.{option_map_or}
use Rattle.logfmt.specs.Bounds.{LogValue}
use Rattle.epochs.specs.declared.part.By.{By}
use Rattle.report.specs.LineText.{ending_text}
use Rattle.report.specs.Report.{HeadValue}
use Rattle.losses.specs.declared.flushes.window.Window.{Window}
use Rattle.losses.specs.declared.flushes.counted.MissingFlush.{MissingFlush}
use Rattle.losses.specs.declared.cure.failure.Failure.{Failure}
use Rattle.losses.specs.Counted.{AreMissing}
use Rattle.losses.specs.CureText.{missing_text}
use Rattle.losses.specs.FailureWindows.{windows_in}
use Rattle.cases.specs.AtCut.{CutValue, parts_of, case_of}
use Rattle.losses.specs.declared.found.FailingCase.{FailingCase}
use Rattle.losses.specs.declared.found.Losses.{Losses}
use Rattle.losses.specs.declared.found.CaseFindings.{CaseFindings}
use Rattle.losses.specs.declared.found.CutFound.{CutFound}
use Rattle.losses.specs.FoundCases.{FailingValue, failing_value}
use Rattle.case_text.specs.Known.{KnownValue, known_of}
use Rattle.case_text.specs.Window.{case_window}
use Rattle.case_text.specs.Text.{window_text, options_text, are_all_cuts, totals_text}
use Rattle.case_text.specs.Causes.{cause_text}

-- a failing case: its number, its window, why it fails, and with what the line of its group ends
pub record ToldValue : Type 0 where
  pub number : ℕ
  pub window : Option Window
  pub cause : List ℕ
  pub tail : List ℕ

-- what it ends in, by its words, and where a flush takes it away
unfoldable pub tail_text : List ℕ → Option Window → List ℕ
tail_text ended window = ended ++ codes "," ++ window_text window

abbrev pub told_with : CutValue → FailingValue → KnownValue → Option Window → ToldValue
told_with at f known window = record { number = f.number; window = window; cause = cause_text at.way at.cut known window; tail = tail_text (ending_text f.ending) window }

abbrev pub told_of : CutValue → Bool → FailingValue → ToldValue
told_of at tears f = told_with at f (known_of tears (case_of tears (parts_of at) f.sets) (parts_of at)) (case_window at (case_of tears (parts_of at) f.sets))

-- those of a program
abbrev pub all_told : CutValue → Bool → List FailingCase → List ToldValue
all_told at tears failing = map (λ (f : FailingCase). told_of at tears (failing_value f)) failing

-- two cases have the same outcome and the same window
abbrev pub is_alike : ToldValue → ToldValue → Bool
is_alike one other = bytes_eq one.tail other.tail

-- a case, and why it fails
unfoldable pub own_text : ToldValue → List ℕ
own_text t = codes "case " ++ decimal t.number ++ codes " " ++ t.cause

unfoldable pub first_line : ToldValue → List ℕ
first_line t = own_text t ++ codes ": " ++ t.tail ++ codes "\n"

unfoldable pub also_line : ToldValue → List ℕ
also_line t = codes "also " ++ own_text t ++ codes "\n"

abbrev pub also_if : ToldValue → ToldValue → List ℕ
also_if one other = if is_alike one other then also_line other else []

-- a case, and below it those after it that are alike; nothing, where one before it is
abbrev pub group_with : List ToldValue → ToldValue → List ToldValue → List ℕ
group_with before t after = if list_any (is_alike t) before then [] else first_line t ++ flat_map (also_if t) after

abbrev pub group_at : List ToldValue → ℕ → List ℕ
group_at told n = option_map_or (λ (t : ToldValue). group_with (take n told) t (drop (n + 1) told)) (slice_get told n) []

abbrev pub groups_text : List ToldValue → List ℕ
groups_text told = flat_map (group_at told) (range_with_len 0 (length told))

-- a cut, with a program that fails there in some cases
unfoldable pub cut_line : ℕ → ℕ → ℕ → List ℕ
cut_line cut program failing = codes "cut " ++ decimal cut ++ codes " program " ++ decimal program ++ codes " failing " ++ decimal failing ++ codes "\n"

-- the failing cases of a program at a cut, where there are some
unfoldable pub told_text : ℕ → ℕ → List ToldValue → List ℕ
told_text cut program told = if length told == 0 then [] else cut_line cut program (length told) ++ groups_text told

abbrev pub program_causes : CutValue → Bool → ℕ → List FailingCase → List ℕ
program_causes at tears program failing = told_text at.cut program (all_told at tears failing)

-- what there is of each of some programs, of which the first has that number
abbrev pub by_program : {A : Type 0} → (ℕ → CaseFindings → List A) → ℕ → List CaseFindings → List A
by_program own program [] = []
by_program own program (found ∷ rest) = own program found ++ by_program own (program + 1) rest

abbrev pub found_causes : CutValue → Bool → ℕ → CaseFindings → List ℕ
found_causes at tears program found = program_causes at tears program found.failing.items

abbrev pub cut_causes : LogValue → By → Bool → CutFound → List ℕ
cut_causes log way tears found = by_program (found_causes (record { log = log; way = way; cut = found.cut }) tears) 0 found.programs.items

-- a failing case as a failure: its program, and its window
abbrev pub failure_of : ℕ → ToldValue → Failure
failure_of program t = record { program = program; window = t.window }

abbrev pub program_failures : CutValue → Bool → ℕ → List FailingCase → List Failure
program_failures at tears program failing = map (failure_of program) (all_told at tears failing)

abbrev pub found_failures : CutValue → Bool → ℕ → CaseFindings → List Failure
found_failures at tears program found = program_failures at tears program found.failing.items

abbrev pub cut_failures : LogValue → By → Bool → CutFound → List Failure
cut_failures log way tears found = by_program (found_failures (record { log = log; way = way; cut = found.cut }) tears) 0 found.programs.items

-- those of all cuts
abbrev pub all_failures : LogValue → By → Bool → List CutFound → List Failure
all_failures log way tears found = flat_map (cut_failures log way tears) found

-- title, options, programs and totals
unfoldable pub begin_text : HeadValue → Losses → List CutFound → List ℕ
begin_text h asked found = codes "crash why cases 1\n" ++ options_text h asked ++ totals_text (are_all_cuts h.cuts) found

-- the whole text, by the failures, the flushes and the lines of the cuts
unfoldable pub parts_bytes : HeadValue → Losses → List CutFound → List Failure → List MissingFlush → List ℕ → List ℕ
parts_bytes h asked found failures missing causes = begin_text h asked found ++ missing_text (length h.programs) failures missing ++ causes

unfoldable pub why_bytes : HeadValue → Losses → LogValue → List CutFound → List MissingFlush → List ℕ
why_bytes h asked log found missing = parts_bytes h asked found (all_failures log h.by asked.tears found) missing (flat_map (cut_causes log h.by asked.tears) found)

-- the bytes say why the cases fail: the fewest flushes that take away each of them that has a window, and then the cases, cut by cut
pub record TellsWhy (h : HeadValue) (asked : Losses) (log : LogValue) (found : List CutFound) (bytes : List ℕ) : Type 0 where
  pub missing : List MissingFlush
  pub are : AreMissing (windows_in (all_failures log h.by asked.tears found)) missing
  pub text : bytes ≡ why_bytes h asked log found missing
