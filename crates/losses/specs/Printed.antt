-- Failing lines, found in the text of all of them.
use Rattle.std.specs.Prelude.{ℕ, ◌≡◌, ◌+◌, true, List, ◌∷◌, ◌++◌, length, drop, slice_get, Some}
use Rattle.std.specs.List.{flat_map}
use Rattle.report.specs.Line.{FailingLine}
use Rattle.report.specs.MarkReading.{lacks}
use Rattle.report.specs.LineText.{line_text}

-- a text that has a newline has its first one right before that place
pub record EndsLine (text : List ℕ) (end : ℕ) : Type 0 where
  pub first : (xs ys : List ℕ) → lacks 10 xs ≡ true → text ≡ xs ++ 10 ∷ ys → end ≡ length xs + 1

-- what stands after the first lines of a text of lines
pub record IsAfter (text : List ℕ) (count : ℕ) (rest : List ℕ) : Type 0 where
  pub read : (ls : List FailingLine) → text ≡ flat_map line_text ls → rest ≡ flat_map line_text (drop count ls)

-- the line of that number of a text of lines
pub record IsPrinted (text : List ℕ) (number : ℕ) (line : List ℕ) : Type 0 where
  pub read : (ls : List FailingLine) (l : FailingLine) → text ≡ flat_map line_text ls → slice_get ls number ≡ Some l → line ≡ line_text l
