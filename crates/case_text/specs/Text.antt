-- The text of the failing cases of a run (docs/OUTPUT.md, The text of cases). Each line ends with one newline; numbers are decimal.
use Rattle.std.specs.Prelude.{ℕ, ◌+◌, ◌-◌, ◌^◌, ◌==◌, min, Bool, true, false, not, ◌&&◌, ◌||◌, if◌then◌else◌, List, [], ◌∷◌, ◌++◌, length, sum_by, Option, None, Some, is_some, codes}
use Rattle.std.specs.Fmt.{decimal}
use Rattle.std.specs.List.{flat_map, list_any}
use Rattle.logfmt.specs.Bounds.{LogValue}
use Rattle.epochs.specs.declared.cuts.Cuts.{Cuts}
use Rattle.epochs.specs.declared.cuts.CutKind.{CutKind}
use Rattle.epochs.specs.declared.cuts.CutKind.TheVariants.{All, BeforeFlush, AfterMark}
use Rattle.epochs.specs.declared.part.Part.{Part}
use Rattle.epochs.specs.declared.part.By.{By}
use Rattle.epochs.specs.Units.{epoch_at, marks_at}
use Rattle.choices.specs.declared.fate.Fate.{Fate}
use Rattle.report.specs.Text.{yes_or_no}
use Rattle.report.specs.LineText.{ending_text}
use Rattle.report.specs.ChoiceText.{fate_text, part_text, departures_text}
use Rattle.report.specs.Report.{HeadValue, device_text, given_text, program_lines}
use Rattle.losses.specs.declared.flushes.window.Window.{Window}
use Rattle.cases.specs.AtCut.{CutValue, parts_of, case_of}
use Rattle.losses.specs.declared.found.FailingCase.{FailingCase}
use Rattle.losses.specs.declared.found.Losses.{Losses}
use Rattle.losses.specs.declared.found.CaseFindings.{CaseFindings}
use Rattle.losses.specs.declared.found.CutFound.{CutFound}
use Rattle.losses.specs.FoundCases.{FailingValue, failing_value}
use Rattle.case_text.specs.Known.{PartFates, KnownValue, known_of}
use Rattle.case_text.specs.Window.{case_window}

-- how many parts may be torn, where some may be, and how many may not be whole, where that is bounded
abbrev pub torn_words : Losses → List ℕ
torn_words asked = if asked.tears then codes " torn " ++ decimal asked.torn else []

abbrev pub at_most_words : Option ℕ → List ℕ
at_most_words None = []
at_most_words (Some most) = codes " at-most " ++ decimal most

-- what is asked of losses
unfoldable pub losses_text : Losses → List ℕ
losses_text asked = codes " bound any tears " ++ yes_or_no asked.tears ++ torn_words asked ++ at_most_words asked.lost

-- the options and the programs
unfoldable pub options_text : HeadValue → Losses → List ℕ
options_text h asked = device_text h ++ losses_text asked ++ given_text h ++ program_lines 0 h.programs

-- what stands before the line of the first failing case alone
abbrev pub head_text : HeadValue → Losses → List ℕ
head_text h asked = codes "crash cases 1\n" ++ options_text h asked

-- a run is of a range of the cuts
abbrev pub has_range : Cuts → Bool
has_range cuts = is_some cuts.from || is_some cuts.to

-- the number of its inputs is told where it is of a range
abbrev pub inputs_told : Cuts → ℕ → Option ℕ
inputs_told cuts inputs = if has_range cuts then Some inputs else None

-- that number, on a line of its own
abbrev pub inputs_text : Option ℕ → List ℕ
inputs_text None = []
inputs_text (Some inputs) = codes "inputs " ++ decimal inputs ++ codes "\n"

-- the first line, and that of the inputs
abbrev pub opening_text : Option ℕ → List ℕ
opening_text inputs = codes "crash cases 1\n" ++ inputs_text inputs

-- and the options and the programs: what stands before the lines of all failing cases
abbrev pub cases_head : Option ℕ → HeadValue → Losses → List ℕ
cases_head inputs h asked = opening_text inputs ++ options_text h asked

-- what may become of a part
abbrev pub fate_word : Option Fate → List ℕ
fate_word None = codes "whole"
fate_word (Some f) = fate_text f

abbrev pub next_fate : Option Fate → List ℕ
next_fate f = codes "+" ++ fate_word f

-- some fates, joined by plus signs
unfoldable pub fates_text : List (Option Fate) → List ℕ
fates_text [] = []
fates_text (f ∷ fates) = fate_word f ++ flat_map next_fate fates

-- a part by its name
abbrev pub part_name : By → Part → List ℕ
part_name way p = part_text way p.entry p.place

abbrev pub next_part : By → Part → List ℕ
next_part way p = codes "," ++ part_name way p

-- some parts, joined by commas; a hyphen where there is none
unfoldable pub parts_text : By → List Part → List ℕ
parts_text way [] = codes "-"
parts_text way (p ∷ parts) = part_name way p ++ flat_map (next_part way) parts

-- a part with what may become of it
unfoldable pub mixed_text : By → PartFates → List ℕ
mixed_text way m = part_name way m.part ++ codes ":" ++ fates_text m.fates

abbrev pub next_mixed : By → PartFates → List ℕ
next_mixed way m = codes "," ++ mixed_text way m

-- some of these, joined by commas, where there are some
unfoldable pub among_text : By → List PartFates → List ℕ
among_text way [] = []
among_text way (m ∷ mixed) = codes " among " ++ mixed_text way m ++ flat_map (next_mixed way) mixed

-- what is known of the parts at risk in a case
unfoldable pub known_text : By → KnownValue → List ℕ
known_text way known =
    codes " choice " ++ departures_text way known.lost ++ codes " kept " ++ parts_text way known.kept ++ among_text way known.mixed
    ++ codes " free " ++ decimal known.free

-- the window of a case
abbrev pub window_text : Option Window → List ℕ
window_text None = codes " flush none"
window_text (Some w) = codes " flush " ++ decimal w.start ++ codes ".." ++ decimal w.end

-- a cut, with the epoch and how many marks stand before it
unfoldable pub place_text : ℕ → ℕ → ℕ → List ℕ
place_text cut epoch marks = codes "cut " ++ decimal cut ++ codes " epoch " ++ decimal epoch ++ codes " marks " ++ decimal marks

-- a program, and a case by its number
unfoldable pub number_text : ℕ → ℕ → List ℕ
number_text program number = codes " program " ++ decimal program ++ codes " case " ++ decimal number ++ codes " "

-- a failing case of a program at a cut
unfoldable pub case_line : CutValue → Bool → ℕ → FailingValue → List ℕ
case_line at tears program f =
    place_text at.cut (epoch_at at.log.entries at.cut) (marks_at at.log.entries at.cut) ++ number_text program f.number ++ ending_text f.ending
    ++ known_text at.way (known_of tears (case_of tears (parts_of at) f.sets) (parts_of at)) ++ window_text (case_window at (case_of tears (parts_of at) f.sets)) ++ codes "\n"

-- those of a program
abbrev pub program_cases : CutValue → Bool → ℕ → List FailingCase → List ℕ
program_cases at tears program failing = flat_map (λ (f : FailingCase). case_line at tears program (failing_value f)) failing

-- those of all programs at a cut
abbrev pub programs_cases : CutValue → Bool → ℕ → List CaseFindings → List ℕ
programs_cases at tears program [] = []
programs_cases at tears program (found ∷ rest) = program_cases at tears program found.failing.items ++ programs_cases at tears (program + 1) rest

-- those of a cut
abbrev pub cut_cases : LogValue → By → Bool → CutFound → List ℕ
cut_cases log way tears found = programs_cases (record { log = log; way = way; cut = found.cut }) tears 0 found.programs.items

-- what was found at all cuts with all programs
abbrev pub all_found : List CutFound → List CaseFindings
all_found found = flat_map (λ (c : CutFound). c.programs.items) found

-- a number, up to what a word holds
abbrev pub in_word : ℕ → ℕ
in_word n = min n (2 ^ 64 - 1)

-- how many cases there are, how many of them fail, and how many were left out
abbrev pub count_cases : List CutFound → ℕ
count_cases found = in_word (sum_by (λ (f : CaseFindings). f.cases) (all_found found))

abbrev pub count_failing : List CutFound → ℕ
count_failing found = in_word (sum_by (λ (f : CaseFindings). length f.failing.items) (all_found found))

abbrev pub count_torn_beyond : List CutFound → ℕ
count_torn_beyond found = in_word (sum_by (λ (f : CaseFindings). f.torn_beyond) (all_found found))

abbrev pub count_lost_beyond : List CutFound → ℕ
count_lost_beyond found = in_word (sum_by (λ (f : CaseFindings). f.lost_beyond) (all_found found))

-- each cut of the log was asked for
abbrev pub is_each_cut : CutKind → Bool
is_each_cut All = true
is_each_cut BeforeFlush = false
is_each_cut AfterMark = false

abbrev pub are_all_cuts : Cuts → Bool
are_all_cuts cuts = is_each_cut cuts.kind && not (has_range cuts)

-- no case was left out: of any cut of the log, or of those that were asked for
abbrev pub extent_words : Bool → List ℕ
extent_words all = if all then codes " complete" else codes " of these cuts"

abbrev pub complete_word : Bool → ℕ → ℕ → List ℕ
complete_word all torn lost = if (torn == 0) && (lost == 0) then extent_words all else []

unfoldable pub counts_text : ℕ → ℕ → ℕ → List ℕ
counts_text cuts cases failing = codes "cuts " ++ decimal cuts ++ codes " cases " ++ decimal cases ++ codes " failing " ++ decimal failing

unfoldable pub beyond_text : ℕ → ℕ → List ℕ
beyond_text torn lost = codes " torn beyond " ++ decimal torn ++ codes " lost beyond " ++ decimal lost

-- how many cuts and cases there are, how many cases fail, and how many were left out
abbrev pub found_text : List CutFound → List ℕ
found_text found = counts_text (length found) (count_cases found) (count_failing found) ++ beyond_text (count_torn_beyond found) (count_lost_beyond found)

unfoldable pub totals_text : Bool → List CutFound → List ℕ
totals_text all found = found_text found ++ complete_word all (count_torn_beyond found) (count_lost_beyond found) ++ codes "\n"

-- the text of the cases of a log, by a number of the run's inputs
unfoldable pub cases_bytes : ℕ → HeadValue → Losses → LogValue → List CutFound → List ℕ
cases_bytes inputs h asked log found =
    cases_head (inputs_told h.cuts inputs) h asked ++ flat_map (cut_cases log h.by asked.tears) found ++ totals_text (are_all_cuts h.cuts) found

-- a program fails on some case
abbrev pub fails_in : CaseFindings → Bool
fails_in found = not (length found.failing.items == 0)

-- some program does at a cut
abbrev pub fails_at : List CaseFindings → Bool
fails_at programs = list_any fails_in programs

-- and at some cut
abbrev pub is_any_failing : List CutFound → Bool
is_any_failing found = list_any (λ (c : CutFound). fails_at c.programs.items) found
