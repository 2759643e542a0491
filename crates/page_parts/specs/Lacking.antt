-- The flushes that are missing: in the row of entries, each right before its entry, and in words above it (docs/OUTPUT.md, The page of `page`).
use Rattle.std.specs.Prelude.{ℕ, ◌+◌, ◌-◌, ◌==◌, if◌then◌else◌, List, [], ◌∷◌, ◌++◌, codes, length, take, slice_get}
use Rattle.std.specs.List.{position}
use Rattle.std.specs.Option.{option_map_or, option_and_then}
use Rattle.std.specs.Fmt.{decimal}
use Rattle.losses.specs.declared.flushes.counted.MissingFlush.{MissingFlush}
use Rattle.page_parts.specs.declared.pieces.PagePart.TheVariants as piece
use Rattle.page_parts.specs.Pieces.{piece_text}
use Rattle.page_parts.specs.declared.counts.JudgedKind.{JudgedKind}
use Rattle.page_parts.specs.Counts.{kind_word, single_word}

-- the name of the place on the page of the one before an entry
unfoldable pub flush_name : ℕ → ℕ → List ℕ
flush_name program entry = codes "p" ++ decimal program ++ codes "f" ++ decimal entry

-- from which entry on it may stand as well, where that is another than its own
unfoldable pub from_text : MissingFlush → List ℕ
from_text m = if m.from == m.at then [] else piece_text piece.LackFrom ++ decimal m.from ++ piece_text piece.LackOn

-- how many failing images or cases it takes away
unfoldable pub taken_text : JudgedKind → MissingFlush → List ℕ
taken_text of m = piece_text piece.LackFailing ++ kind_word of ++ codes ": " ++ decimal m.failing

-- what stands beside the pointer: where it may stand, and how many it takes away
unfoldable pub flush_title : JudgedKind → MissingFlush → List ℕ
flush_title of m = piece_text piece.LackTitle ++ decimal m.at ++ from_text m ++ taken_text of m

-- its place, and to which line it leads
unfoldable pub flush_link : ℕ → ℕ → List ℕ
flush_link program entry = piece_text piece.LackOpen ++ flush_name program entry ++ piece_text piece.CellLink ++ decimal entry

-- a missing flush in the row
unfoldable pub flush_text : JudgedKind → ℕ → MissingFlush → List ℕ
flush_text of program m = flush_link program m.at ++ flush_title of m ++ piece_text piece.LackClose

-- the one before entry n, if there is one
abbrev pub lack_at : JudgedKind → ℕ → List MissingFlush → ℕ → List ℕ
lack_at of program ms n =
    option_map_or (flush_text of program) (option_and_then (λ (i : ℕ). slice_get ms i) (position (λ (m : MissingFlush). m.at == n) ms)) []

-- how many of them are named in words
abbrev pub most_named : ℕ
most_named = 16

-- what stands before the one of that number, of that many
abbrev pub between_text : ℕ → ℕ → List ℕ
between_text count number = if number == 0 then [] else if number + 1 == count then codes " and " else codes ", "

-- one that is named, which leads to its place in the row
unfoldable pub named_text : ℕ → ℕ → ℕ → MissingFlush → List ℕ
named_text program count number m =
    between_text count number ++ piece_text piece.NamedOpen ++ flush_name program m.at ++ piece_text piece.LinkEnd ++ decimal m.at ++ piece_text piece.NamedClose

-- those from that number on, of that many
abbrev pub named_from : ℕ → ℕ → ℕ → List MissingFlush → List ℕ
named_from program count number [] = []
named_from program count number (m ∷ ms) = named_text program count number m ++ named_from program count (number + 1) ms

-- how many more there are
unfoldable pub more_text : ℕ → List ℕ
more_text n = if n == 0 then [] else codes " and " ++ decimal n ++ codes " more"

abbrev pub entries_word : ℕ → List ℕ
entries_word count = if count == 1 then piece_text piece.CureEntry else piece_text piece.CureEntries

-- what they take away
unfoldable pub every_text : JudgedKind → List ℕ
every_text of = piece_text piece.CureEvery ++ single_word of ++ piece_text piece.CureClose

-- the flushes that take every failing image or case away against which a flush helps
unfoldable pub flushes_text : JudgedKind → ℕ → List MissingFlush → List ℕ
flushes_text of program ms =
    entries_word (length ms) ++ named_from program (length ms) 0 (take most_named ms) ++ more_text (length ms - length (take most_named ms)) ++ every_text of

abbrev pub cure_text : JudgedKind → ℕ → List MissingFlush → List ℕ
cure_text of program ms = if length ms == 0 then [] else flushes_text of program ms

-- and against how many of the failing images or cases no flush helps
unfoldable pub uncured_text : JudgedKind → ℕ → List ℕ
uncured_text of count =
    if count == 0 then [] else piece_text piece.UncuredOpen ++ decimal count ++ piece_text piece.UncuredOf ++ kind_word of ++ piece_text piece.UncuredClose

abbrev pub advice_text : JudgedKind → ℕ → List MissingFlush → ℕ → List ℕ
advice_text of program ms uncured = cure_text of program ms ++ uncured_text of uncured
