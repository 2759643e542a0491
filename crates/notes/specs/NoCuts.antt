-- What is said where no cut of a log is wanted (docs/REFUSALS.md, Notes).
use Rattle.std.specs.Prelude.{ℕ, Bool, List, ◌++◌, codes, if◌then◌else◌}

unfoldable pub no_cut_words : List ℕ
no_cut_words = codes "note: no cut is asked for: no image was judged; "

-- which cuts to ask for: with a range a wider one may have some, and without one the log has none of the kind
unfoldable pub ask_words : Bool → List ℕ
ask_words ranged = if ranged then codes "take a wider --from and --to, or ask without --cuts\n" else codes "the log has no mark, so --cuts mark has no cut; ask without --cuts\n"

abbrev pub no_cut_text : Bool → List ℕ
no_cut_text ranged = no_cut_words ++ ask_words ranged
