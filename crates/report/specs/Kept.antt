-- What is kept of lines.
use Rattle.std.specs.Prelude.{ℕ, ◌≡◌, ◌≤◌, ◌<◌, ◌^◌, ◌==◌, ◌&&◌, ◌||◌, Bool, if◌then◌else◌, List, [], ◌∷◌, ◌++◌, Option, None, Some, take, length}
use Rattle.std.specs.List.{flat_map}
use Rattle.report.specs.Line.{FailingLine}
use Rattle.report.specs.Images.{first_image, last_after, changes_after, is_same, leading}
use Rattle.report.specs.LineText.{line_text}

-- an image, where there are that many that there is one
abbrev pub if_any : ℕ → ℕ → Option ℕ
if_any count image = if count == 0 then None else Some image

-- the images of the first and of the last line, and how many lines begin one
pub record AreOf (ls : List FailingLine) (first last : Option ℕ) (count : ℕ) : Type 0 where
  pub first_is : first ≡ first_image ls
  pub last_is : last ≡ last_after None ls
  pub count_is : count ≡ changes_after None ls

-- what is kept of a part: its text, of which that many bytes are that of the leading lines, and its images
pub record IsPart (ls : List FailingLine) (text : List ℕ) (leading_end : ℕ) (first last : Option ℕ) (count : ℕ) : Type 0 where
  pub text_is : text ≡ flat_map line_text ls
  pub within : leading_end ≤ length text
  pub leading_is : take leading_end text ≡ flat_map line_text (leading ls)
  pub images : AreOf ls first last count

-- what is kept of all lines: their text, that of the leading lines, and their images
pub record AreKept (ls : List FailingLine) (text leading_text : List ℕ) (first last : Option ℕ) (count : ℕ) : Type 0 where
  pub text_is : text ≡ flat_map line_text ls
  pub leading_is : leading_text ≡ flat_map line_text (leading ls)
  pub images : AreOf ls first last count

-- whether the lines that follow begin with some of the image of all lines so far: there are none so far, or all are
-- of the image with which those that follow begin
abbrev pub leads_on : ℕ → Option ℕ → Option ℕ → Bool
leads_on count last first = count == 0 || count == 1 && is_same last first

-- the numbers of a line's image and program are a u64 and a u8
abbrev pub IsSmall : FailingLine → Type 0
IsSmall l = (l.image < 2 ^ 64) × (l.program < 2 ^ 8)

abbrev pub AreSmall : List FailingLine → Type 0
AreSmall [] = Unit {0}
AreSmall (l ∷ ls) = IsSmall l × AreSmall ls

-- each text is that of some of the lines, one after the other
abbrev pub AreTextsOf : List (List ℕ) → List FailingLine → Type 0
AreTextsOf [] ls = ls ≡ []
AreTextsOf (text ∷ texts) ls = (own : List FailingLine) × (more : List FailingLine) × (ls ≡ own ++ more) × AreSmall own × (text ≡ flat_map line_text own) × AreTextsOf texts more
