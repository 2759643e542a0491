-- How images that are wanted are told, one after the other.
use Rattle.std.specs.Prelude.{ℕ, ◌≡◌, List, slice_index_or, Option, None, Some, All}
use Rattle.logfmt.specs.Bounds.{LogValue}
use Rattle.images.specs.Views.{ViewValue}

-- images of one log
abbrev pub AreOfLog : LogValue → List ViewValue → Type 0
AreOfLog log views = All (λ (v : ViewValue). v.log ≡ log) views

-- the image at a place, or that before entry 0
abbrev pub shown_in : List ViewValue → ViewValue → Option ℕ → ViewValue
shown_in views initial None = initial
shown_in views initial (Some place) = slice_index_or views place initial
