-- What is said of a search by records that isn't complete (docs/REFUSALS.md, Notes).
use Rattle.std.specs.Prelude.{ℕ, ◌==◌, if◌then◌else◌, List, [], ◌++◌, codes}
use Rattle.std.specs.Fmt.{decimal}
use Rattle.request.specs.declared.facts.untold.Untold.{Untold}

-- how many cases are open
unfoldable pub open_text : ℕ → List ℕ
open_text cases =
    codes "note: open cases, which no record tells: " ++ decimal cases ++ codes "; 'crashbpf export' with the same options writes their images\n"

abbrev pub open_note : ℕ → List ℕ
open_note cases = if cases == 0 then [] else open_text cases

-- at how many cuts the search was stopped
unfoldable pub stopped_text : ℕ → List ℕ
stopped_text stopped = codes "note: cuts at which the search was stopped before all cases: " ++ decimal stopped ++ codes "\n"

abbrev pub stopped_note : ℕ → List ℕ
stopped_note stopped = if stopped == 0 then [] else stopped_text stopped

abbrev pub untold_notes : Untold → List ℕ
untold_notes untold = open_note untold.cases ++ stopped_note untold.stopped
