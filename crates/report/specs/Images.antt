-- Of which images lines are.
use Rattle.std.specs.Prelude.{ℕ, ◌+◌, ◌==◌, Bool, false, if◌then◌else◌, List, [], ◌∷◌, map, Option, None, Some}
use Rattle.std.specs.List.{list_any}
use Rattle.report.specs.Line.{FailingLine}

abbrev pub images_of : List FailingLine → List ℕ
images_of ls = map (λ (l : FailingLine). l.image) ls

-- how many numbers stand in a list, each counted once
abbrev pub distinct_count : List ℕ → ℕ
distinct_count [] = 0
distinct_count (x ∷ xs) = distinct_count xs + (if list_any (λ (y : ℕ). y == x) xs then 0 else 1)

-- how many images the lines are of
abbrev pub failing_images : List FailingLine → ℕ
failing_images ls = distinct_count (images_of ls)

-- the image of the first line, if there is one
abbrev pub first_image : List FailingLine → Option ℕ
first_image [] = None
first_image (l ∷ ls) = Some l.image

-- the image of the last line, after one of the image `last`
abbrev pub last_after : Option ℕ → List FailingLine → Option ℕ
last_after last [] = last
last_after last (l ∷ ls) = last_after (Some l.image) ls

-- the first of two images, each of which there may not be
abbrev pub first_of : Option ℕ → Option ℕ → Option ℕ
first_of None other = other
first_of (Some image) other = Some image

-- whether there are two images and they are the same
abbrev pub is_same : Option ℕ → Option ℕ → Bool
is_same None other = false
is_same (Some image) None = false
is_same (Some image) (Some other) = image == other

-- how many lines are of another image than the line before, after one of the image `last`
abbrev pub changes_after : Option ℕ → List FailingLine → ℕ
changes_after last [] = 0
changes_after last (l ∷ ls) = (if is_same last (Some l.image) then 0 else 1) + changes_after (Some l.image) ls

-- the lines up to the first of another image
abbrev pub leading_of : ℕ → List FailingLine → List FailingLine
leading_of image [] = []
leading_of image (l ∷ ls) = if image == l.image then l ∷ leading_of image ls else []

-- the first line, and those after it up to the first of another image
abbrev pub leading : List FailingLine → List FailingLine
leading [] = []
leading (l ∷ ls) = l ∷ leading_of l.image ls
