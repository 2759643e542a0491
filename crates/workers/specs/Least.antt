-- The least failing image, as the code computes it.
use Rattle.std.specs.Prelude.{ℕ, min, List, [], ◌∷◌, Option, None, Some}
use Rattle.report.specs.Line.{FailingLine}

-- the lower of two images, each of which there may not be
abbrev pub lower : Option ℕ → Option ℕ → Option ℕ
lower None other = other
lower (Some image) None = Some image
lower (Some image) (Some other) = Some (min image other)

-- the least image of a line
abbrev pub least_image : List FailingLine → Option ℕ
least_image [] = None
least_image (l ∷ ls) = lower (Some l.image) (least_image ls)
