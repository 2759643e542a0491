-- What is read of the text of a part, of images or of cases (docs/COMMANDS.md, How files are read).
use Rattle.std.specs.Prelude.{ℕ, ◌≡◌, ◌⊎◌, ◌||◌, min, if◌then◌else◌, Bool, List, bytes_eq, codes, take}
use Rattle.join.specs.Reading.{NoPartText}
use Rattle.join.specs.CaseTexts.{NoCasesText}

-- the line with which the text of a part begins
abbrev pub part_line : List ℕ
part_line = codes "crash part 1\n"

-- as many bytes of the line with which the text of cases begins
abbrev pub cases_word : List ℕ
cases_word = codes "crash cases 1"

-- whether the first bytes are one of these
abbrev pub is_begun : List ℕ → Bool
is_begun bytes = bytes_eq bytes part_line || bytes_eq bytes cases_word

-- as many of the first bytes as these have, of those that may be read
abbrev pub beginning : ℕ → List ℕ → List ℕ
beginning most bytes = take (min most 13) bytes

-- what is read of a file, of which at most that many bytes may be: all of these where it begins so, and else no more
unfoldable pub part_read : ℕ → List ℕ → List ℕ
part_read most bytes = if is_begun (beginning most bytes) then take most bytes else beginning most bytes

-- bytes are neither the text of a part nor that of cases
pub record NeitherText (bytes : List ℕ) : Type 0 where
  pub part : NoPartText bytes
  pub cases : NoCasesText bytes

-- where not all is read that may be, the file isn't such a text, and neither is what is read
abbrev pub PartIsReadAlike : Type 0
PartIsReadAlike = (bytes : List ℕ) (most : ℕ) → (part_read most bytes ≡ take most bytes) ⊎ (NeitherText bytes × NeitherText (part_read most bytes))
