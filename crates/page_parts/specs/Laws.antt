-- The law of texts on a page: no text of a user becomes markup.
use Rattle.std.specs.Prelude.{ℕ, ◌≡◌, ◌==◌, ◌||◌, Bool, false, List, slice_get, Some}
use Rattle.page_parts.specs.Html.{html, mark_label}

-- the characters that begin or end markup: `<`, `>`, `"` and `'`
abbrev pub is_markup : ℕ → Bool
is_markup b = (b == 60) || (b == 62) || (b == 34) || (b == 39)

-- an escaped text has no such character, and an escaped mark has none
abbrev pub TextIsNoMarkup : Type 0
TextIsNoMarkup =
    (bytes : List ℕ) (i b : ℕ) → (slice_get (html bytes) i ≡ Some b → is_markup b ≡ false) × (slice_get (mark_label bytes) i ≡ Some b → is_markup b ≡ false)
