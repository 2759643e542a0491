-- What is said of the instructions of an accepted program that no run reaches (docs/REFUSALS.md, Notes).
use Rattle.std.specs.Prelude.{ℕ, List, [], ◌++◌, codes, Option, None, Some}
use Rattle.std.specs.Fmt.{decimal}

-- of a program of several it says of which
unfoldable pub head_text : Option ℕ → List ℕ
head_text None = codes "note: "
head_text (Some program) = codes "note: program " ++ decimal program ++ codes ": "

unfoldable pub count_text : ℕ → List ℕ
count_text n = codes "instructions that no run reaches: " ++ decimal n

unfoldable pub first_text : ℕ → List ℕ
first_text slot = codes ", the first at slot " ++ decimal slot

unfoldable pub question : List ℕ
question = codes "; a loop that crashbpf-cc bounds may leave some, else is the checker the first function of its file?\n"

abbrev pub found_text : ℕ → ℕ → List ℕ
found_text n first = count_text n ++ first_text first ++ question

-- of that many, with the first
abbrev pub unreached_text : Option ℕ → Option (ℕ × ℕ) → List ℕ
unreached_text whose None = []
unreached_text whose (Some found) = head_text whose ++ found_text found.0 found.1
