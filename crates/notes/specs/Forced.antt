-- What is said of entries with FUA where parts are torn (docs/REFUSALS.md, Notes).
use Rattle.std.specs.Prelude.{ℕ, List, ◌++◌, codes}
use Rattle.std.specs.Fmt.{decimal}

unfoldable pub forced_count : ℕ → List ℕ
forced_count count = codes "note: entries with FUA: " ++ decimal count

unfoldable pub forced_words : List ℕ
forced_words = codes "; no image loses or tears one, though a crash may while it is in flight; 'crashbpf explore --bound any' does (docs/CRASH-MODEL.md, What a clean report doesn't say)\n"

abbrev pub forced_text : ℕ → List ℕ
forced_text count = forced_count count ++ forced_words
