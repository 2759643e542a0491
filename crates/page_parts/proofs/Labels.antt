-- Texts of marks.
use Rattle.std.proofs.Common.{ℕ, ◌≡◌, Bool, true, false, List, [], ◌∷◌, map, chars, IsUtf8, refl, ap}
use Rattle.std.proofs.lemmas.Str.{IsUtf8-from_is_utf8, is_utf8-from_IsUtf8}
use Rattle.std.specs.List.{flat_map}
use Rattle.std.specs.Str.{is_utf8}
use Rattle.crash_text.specs.Escaped.{escaped_text}
use Rattle.page_parts.specs.Html.{html, mark_char, mark_label}

pub map_self : (cs : List ℕ) → map (λ c. c) cs ≡ cs
map_self [] = refl
map_self (c ∷ cs) = ap (λ (xs : List ℕ). c ∷ xs) (map_self cs)

pub label_of_utf8 : (text : List ℕ) → IsUtf8 text → mark_label text ≡ flat_map mark_char (chars text)
label_of_utf8 text is = rw (is_utf8-from_IsUtf8 text is) refl

not_utf8 : (text : List ℕ) (b : Bool) → is_utf8 text ≡ b → (¬ (IsUtf8 text)) → is_utf8 text ≡ false
not_utf8 text true e isnt = absurd (isnt (IsUtf8-from_is_utf8 text e))
not_utf8 text false e isnt = e

pub label_of_others : (text : List ℕ) → (¬ (IsUtf8 text)) → mark_label text ≡ html (escaped_text text)
label_of_others text isnt = rw (not_utf8 text (is_utf8 text) refl isnt) refl
