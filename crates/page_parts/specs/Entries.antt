-- The entries of a log on a page: a cell in the row of entries, and a line in the list of entries.
use Rattle.std.specs.Prelude.{ℕ, ◌-◌, ◌%◌, ◌==◌, if◌then◌else◌, List, [], ◌++◌, codes, length, slice_get}
use Rattle.std.specs.List.{flat_map, range_with_len}
use Rattle.std.specs.Option.{option_map_or}
use Rattle.std.specs.Fmt.{decimal}
use Rattle.logfmt.specs.declared.entry.Entry.{Entry}
use Rattle.losses.specs.declared.flushes.counted.MissingFlush.{MissingFlush}
use Rattle.epochs.specs.Units.{epoch_at}
use Rattle.crash_text.specs.LogTable.{word_text, is_write, line_at}
use Rattle.page_parts.specs.declared.pieces.PagePart.TheVariants as piece
use Rattle.page_parts.specs.Pieces.{piece_text}
use Rattle.page_parts.specs.declared.counts.JudgedKind.{JudgedKind}
use Rattle.page_parts.specs.Html.{html, mark_label}
use Rattle.page_parts.specs.Lacking.{lack_at}

-- every other epoch is shaded
abbrev pub shade_text : ℕ → List ℕ
shade_text epoch = word_text (epoch % 2 == 1) (codes "o")

-- the classes of an entry, which say its colour and its lines
unfoldable pub class_text : Entry → List ℕ
class_text e =
    word_text (is_write e) (codes "write") ++ word_text e.flags.flush (codes "flush") ++ word_text e.flags.fua (codes "fua")
    ++ word_text e.flags.discard (codes "discard") ++ word_text e.flags.mark (codes "mark")

-- the text of a mark
abbrev pub label_text : Entry → List ℕ
label_text e = if e.flags.mark then codes " " ++ mark_label e.text else []

unfoldable pub link_text : ℕ → List ℕ
link_text n = piece_text piece.CellLink ++ decimal n ++ piece_text piece.LinkEnd ++ decimal n

unfoldable pub cell_class : ℕ → Entry → List ℕ
cell_class epoch e = piece_text piece.CellOpen ++ shade_text epoch ++ class_text e

-- entry n in the row, which leads to its line
unfoldable pub cell_text : ℕ → ℕ → Entry → List ℕ
cell_text n epoch e = cell_class epoch e ++ link_text n ++ label_text e ++ piece_text piece.CellClose

abbrev pub cell_at : List Entry → ℕ → List ℕ
cell_at es n = option_map_or (cell_text n (epoch_at es n)) (slice_get es n) []

-- the flush that is missing before entry n, and its cell
unfoldable pub place_at : JudgedKind → List Entry → ℕ → List MissingFlush → ℕ → List ℕ
place_at of es program ms n = lack_at of program ms n ++ cell_at es n

-- the cells of the entries from `from` to before `to`
unfoldable pub cells_text : JudgedKind → List Entry → ℕ → List MissingFlush → ℕ → ℕ → List ℕ
cells_text of es program ms from to = flat_map (place_at of es program ms) (range_with_len from (to - from))

-- the line of entry n, as `log` prints it
unfoldable pub row_text : List Entry → ℕ → List ℕ
row_text es n = piece_text piece.RowOpen ++ decimal n ++ piece_text piece.LinkEnd ++ html (line_at es n) ++ piece_text piece.RowClose

-- the lines of all entries
unfoldable pub rows_text : List Entry → List ℕ
rows_text es = flat_map (row_text es) (range_with_len 0 (length es))
