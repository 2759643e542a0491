-- What is said of marks that promise what nothing made durable (docs/REFUSALS.md, Notes).
use Rattle.std.specs.Prelude.{ℕ, ◌-◌, ◌==◌, if◌then◌else◌, List, [], ◌∷◌, ◌++◌, codes, length}
use Rattle.std.specs.Fmt.{decimal}
use Rattle.std.specs.List.{flat_map}

unfoldable pub promise_words : List ℕ
promise_words = codes "note: marks that promise what nothing made durable: entries "

unfoldable pub loss_words : List ℕ
loss_words = codes "note: a write before each of them may still be lost there: it has no flush after it, and isn't FUA\n"

-- one more mark
abbrev pub next_text : ℕ → List ℕ
next_text mark = codes ", " ++ decimal mark

-- marks with commas between
abbrev pub marks_text : List ℕ → List ℕ
marks_text [] = []
marks_text (mark ∷ marks) = decimal mark ++ flat_map next_text marks

-- how many more there are
unfoldable pub more_text : ℕ → List ℕ
more_text more = if more == 0 then codes "\n" else codes " and " ++ decimal more ++ codes " more\n"

-- of that many marks, of which these are the first
abbrev pub promises_text : ℕ → List ℕ → List ℕ
promises_text count first = if count == 0 then [] else promise_words ++ marks_text first ++ more_text (count - length first) ++ loss_words
