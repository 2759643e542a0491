-- Text on a page (docs/OUTPUT.md, The page of `page`).
use Rattle.std.specs.Prelude.{ℕ, ◌==◌, nat_lt, ◌||◌, Bool, true, if◌then◌else◌, List, [], ◌∷◌, ◌++◌, codes, chars}
use Rattle.std.specs.List.{flat_map}
use Rattle.std.specs.Str.{is_utf8}
use Rattle.std.specs.Char.{encode_utf8, is_control}
use Rattle.crash_text.specs.Escaped.{escaped_text}
use Rattle.page_parts.specs.declared.pieces.PagePart.TheVariants as piece
use Rattle.page_parts.specs.Pieces.{piece_text}

-- an ASCII character as it is, and U+FFFD for any other byte
abbrev pub plain_byte : ℕ → List ℕ
plain_byte b = if nat_lt b 128 then b ∷ [] else codes "&#65533;"

-- `&`, `<`, `>`, `"` and `'` by their names or numbers
abbrev pub html_byte : ℕ → List ℕ
html_byte b =
    if b == 38 then codes "&amp;" else if b == 60 then codes "&lt;" else if b == 62 then codes "&gt;" else if b == 34 then codes "&quot;" else if b == 39 then codes "&#39;"
    else plain_byte b

abbrev pub html : List ℕ → List ℕ
html bytes = flat_map html_byte bytes

-- a control character or `\` (92)
abbrev pub is_odd : ℕ → Bool
is_odd c = is_control c || c == 92

-- a character below 160 of the text of a mark: an odd one as `log` shows its number, any other as it is
abbrev pub low_char : ℕ → List ℕ
low_char c = if is_odd c then html (escaped_text (c ∷ [])) else html_byte c

abbrev pub mark_char : ℕ → List ℕ
mark_char c = if nat_lt c 160 then low_char c else encode_utf8 c

-- the text of a mark: by its characters where it is UTF-8, else as `log` shows it
abbrev pub mark_label : List ℕ → List ℕ
mark_label text = if is_utf8 text then flat_map mark_char (chars text) else html (escaped_text text)

-- which of two images a line of a difference is of: `<` begins one of the image where nothing departs, `>` one of this image
abbrev pub side_text : ℕ → List ℕ
side_text b = if b == 60 then piece_text piece.WholeSide else if b == 62 then piece_text piece.WrongSide else piece_text piece.NoSide

abbrev pub begin_text : Bool → ℕ → List ℕ
begin_text begins b = if begins then side_text b else []

abbrev pub end_text : ℕ → List ℕ
end_text b = if b == 10 then piece_text piece.SideClose else []

-- a byte of a text of lines, of which each is marked by its side
unfoldable pub sided_byte : Bool → ℕ → List ℕ
sided_byte begins b = begin_text begins b ++ html_byte b ++ end_text b

abbrev pub sided_from : Bool → List ℕ → List ℕ
sided_from begins [] = []
sided_from begins (b ∷ bs) = sided_byte begins b ++ sided_from (b == 10) bs

abbrev pub side_by_side : List ℕ → List ℕ
side_by_side bytes = sided_from true bytes
