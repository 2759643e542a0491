-- How much of a cut fails: of its images, or of its cases.
use Rattle.std.specs.Prelude.{ℕ, ◌==◌, not, Bool, List, codes, length, filter}
use Rattle.page_parts.specs.declared.counts.JudgedKind.{JudgedKind}
use Rattle.page_parts.specs.declared.counts.JudgedKind.TheVariants as kind
use Rattle.page_parts.specs.declared.counts.CutCount.{CutCount}

-- what is judged, by its name
unfoldable pub kind_word : JudgedKind → List ℕ
kind_word kind.Images = codes "images"
kind_word kind.Cases = codes "cases"

-- and one of it
unfoldable pub single_word : JudgedKind → List ℕ
single_word kind.Images = codes "image"
single_word kind.Cases = codes "case"

-- something fails at a cut, and at how many of some cuts something does
abbrev pub fails : CutCount → Bool
fails c = not (c.failing == 0)

abbrev pub count_fails : List CutCount → ℕ
count_fails cs = length (filter fails cs)
