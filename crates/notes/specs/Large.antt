-- Entries of more sectors than may be lost together (docs/CRASH-MODEL.md, What a clean report doesn't say).
use Rattle.std.specs.Prelude.{ℕ, List, ◌++◌, codes}
use Rattle.std.specs.Fmt.{decimal}

unfoldable pub bound_text : ℕ → List ℕ
bound_text bound = codes "note: entries with more than " ++ decimal bound

unfoldable pub number_text : ℕ → List ℕ
number_text n = codes " sectors: " ++ decimal n ++ codes "; none is ever dropped as a whole\n"

abbrev pub count_text : ℕ → ℕ → List ℕ
count_text bound n = bound_text bound ++ number_text n
