-- What the cases that records tell come to, and the status (docs/OUTPUT.md, Records of a program of yours).
use Rattle.std.specs.Prelude.{ℕ, ◌+◌, ◌==◌, Bool, true, not, ◌&&◌, if◌then◌else◌, List, [], ◌++◌, length, sum_by, codes, Option, Some, None}
use Rattle.std.specs.Fmt.{decimal}
use Rattle.case_text.specs.Text.{in_word, counts_text, beyond_text, complete_word}
use Rattle.known.specs.declared.found.KnownAt.{KnownAt}
use Rattle.request.specs.declared.facts.left_out.LeftOut.{LeftOut}
use Rattle.known_runs.specs.declared.totals.KnownTotals.{KnownTotals}

abbrev pub count_stopped : KnownAt → ℕ
count_stopped f = if f.stopped then 1 else 0

-- at some cuts: how many told leaves there are, how many of them fail, how many cases were left out, how many are open, and at how many cuts
-- the search was stopped
unfoldable pub totals_of : List KnownAt → KnownTotals
totals_of found = record {
  told = in_word (sum_by (λ (f : KnownAt). f.told) found);
  failing = in_word (sum_by (λ (f : KnownAt). length f.failing.items) found);
  torn = in_word (sum_by (λ (f : KnownAt). f.torn_beyond) found);
  lost = in_word (sum_by (λ (f : KnownAt). f.lost_beyond) found);
  untold = in_word (sum_by (λ (f : KnownAt). length f.open_cases.items) found);
  stopped = in_word (sum_by count_stopped found);
}

-- those, and what was found at one more cut
abbrev pub with_one : KnownTotals → KnownAt → KnownTotals
with_one t f = record {
  told = in_word (t.told + f.told);
  failing = in_word (t.failing + length f.failing.items);
  torn = in_word (t.torn + f.torn_beyond);
  lost = in_word (t.lost + f.lost_beyond);
  untold = in_word (t.untold + length f.open_cases.items);
  stopped = in_word (t.stopped + count_stopped f);
}

-- no record tells some case, or a search was stopped
abbrev pub is_told : KnownTotals → Bool
is_told t = (t.untold == 0) && (t.stopped == 0)

-- nothing is open, left out or pending
abbrev pub is_whole : KnownTotals → Bool
is_whole t = is_told t && ((t.torn == 0) && (t.lost == 0))

unfoldable pub untold_text : KnownTotals → List ℕ
untold_text t = codes " open " ++ decimal t.untold ++ codes " stopped " ++ decimal t.stopped

abbrev pub whole_word : Bool → KnownTotals → List ℕ
whole_word all t = if is_told t then complete_word all t.torn t.lost else []

-- the last line
unfoldable pub totals_text : Bool → ℕ → KnownTotals → List ℕ
totals_text all cuts t = counts_text cuts t.told t.failing ++ beyond_text t.torn t.lost ++ untold_text t ++ whole_word all t ++ codes "\n"

-- 1 where something fails, else 0 where nothing is open, left out or pending, else 3
abbrev pub status_of : KnownTotals → ℕ
status_of t = if not (t.failing == 0) then 1 else if is_whole t then 0 else 3

-- how many cases were left out, where none that is told fails
abbrev pub left_out_of : KnownTotals → Option LeftOut
left_out_of t = if not (t.failing == 0) then None else Some (record { torn = t.torn; lost = t.lost })
