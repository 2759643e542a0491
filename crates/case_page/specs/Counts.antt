-- How many cases of a cut fail.
use Rattle.std.specs.Prelude.{ℕ, ◌==◌, ◌&&◌, Bool, true, List, [], length, sum_by, slice_get}
use Rattle.std.specs.List.{list_all}
use Rattle.std.specs.Option.{option_map_or}
use Rattle.losses.specs.declared.found.FailingCase.{FailingCase}
use Rattle.losses.specs.declared.found.CaseFindings.{CaseFindings}
use Rattle.losses.specs.declared.found.CutFound.{CutFound}
use Rattle.case_text.specs.Text.{in_word}
use Rattle.page_parts.specs.declared.counts.JudgedKind.TheVariants as kind
use Rattle.page_parts.specs.declared.counts.CutCount.{CutCount}

-- how much there is at some cuts, and how much of it fails, each up to what a word holds
abbrev pub all_in : List CutCount → ℕ
all_in cs = in_word (sum_by (λ (c : CutCount). c.all) cs)

abbrev pub failing_in : List CutCount → ℕ
failing_in cs = in_word (sum_by (λ (c : CutCount). c.failing) cs)

-- what was found at a cut with the program of that number: the cases that fail, and how many there are
abbrev pub failing_of : ℕ → CutFound → List FailingCase
failing_of program c = option_map_or (λ (f : CaseFindings). f.failing.items) (slice_get c.programs.items program) []

abbrev pub cases_of : ℕ → CutFound → ℕ
cases_of program c = option_map_or (λ (f : CaseFindings). f.cases) (slice_get c.programs.items program) 0

-- no case at a cut was left out for the program of that number, and none at some cuts
abbrev pub has_all_at : ℕ → CutFound → Bool
has_all_at program c = option_map_or (λ (f : CaseFindings). (f.torn_beyond == 0) && (f.lost_beyond == 0)) (slice_get c.programs.items program) true

abbrev pub has_all : ℕ → List CutFound → Bool
has_all program found = list_all (has_all_at program) found

abbrev pub case_count : ℕ → CutFound → CutCount
case_count program c = record { cut = c.cut; of = kind.Cases; all = cases_of program c; failing = length (failing_of program c) }
