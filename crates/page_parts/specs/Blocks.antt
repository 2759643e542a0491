-- A large log on a page: its entries and its cuts in blocks, in the row and in the list of entries (docs/OUTPUT.md, The page of `page`).
use Rattle.std.specs.Prelude.{ℕ, ◌+◌, ◌-◌, ◌/◌, ◌%◌, ◌==◌, min, nat_le, nat_lt, Bool, not, ◌&&◌, if◌then◌else◌, List, [], ◌++◌, codes, length, take, filter, slice_get}
use Rattle.std.specs.List.{flat_map, range_with_len, slice_range, list_any, find}
use Rattle.std.specs.Option.{option_map_or}
use Rattle.std.specs.Fmt.{decimal}
use Rattle.logfmt.specs.declared.entry.Entry.{Entry}
use Rattle.epochs.specs.Units.{epoch_at}
use Rattle.crash_text.specs.LogTable.{word_text, is_write, what_text}
use Rattle.losses.specs.declared.flushes.counted.MissingFlush.{MissingFlush}
use Rattle.page_parts.specs.declared.pieces.PagePart.TheVariants as piece
use Rattle.page_parts.specs.Pieces.{piece_text}
use Rattle.page_parts.specs.declared.counts.CutCount.{CutCount}
use Rattle.page_parts.specs.declared.counts.JudgedKind.{JudgedKind}
use Rattle.page_parts.specs.Counts.{kind_word}
use Rattle.page_parts.specs.Html.{html}
use Rattle.page_parts.specs.Lacking.{flush_name, flush_title, most_named}
use Rattle.page_parts.specs.Entries.{shade_text}
use Rattle.page_parts.specs.Cells.{place_name, passing_text, failing_class, failing_title}

-- a log of that many entries is large; its row has at most one block more, and at most that many failing cuts are listed
abbrev pub most_cells : ℕ
most_cells = 1000

abbrev pub is_large : List Entry → Bool
is_large es = nat_le most_cells (length es)

-- how many entries a block has; those of all blocks begin at its multiples
abbrev pub width_of : List Entry → ℕ
width_of es = length es / most_cells + 1

abbrev pub begins_block : List Entry → ℕ → Bool
begins_block es n = n % width_of es == 0

-- before which number a block ends; the last block of cuts has the cut after the last entry, too
abbrev pub beyond : List Entry → ℕ → ℕ
beyond es from = from + width_of es

abbrev pub end_of : List Entry → ℕ → ℕ
end_of es from = min (beyond es from) (length es)

unfoldable pub range_text : ℕ → ℕ → List ℕ
range_text from end = decimal from ++ codes " to " ++ decimal (end - 1)

-- a cut of a block, and one at which something fails
abbrev pub is_within : ℕ → ℕ → CutCount → Bool
is_within from to c = nat_le from c.cut && nat_lt c.cut to

abbrev pub fails_within : ℕ → ℕ → CutCount → Bool
fails_within from to c = not (c.failing == 0) && is_within from to c

abbrev pub count_within : ℕ → ℕ → List CutCount → ℕ
count_within from to cs = length (filter (fails_within from to) cs)

-- the failing cuts of a block from there on are among those that are listed
abbrev pub is_listed : List CutCount → ℕ → Bool
is_listed cs from = nat_lt (count_within 0 from cs) most_cells

-- the name of the place that tells how many failing cuts aren't listed
unfoldable pub more_name : ℕ → List ℕ
more_name program = codes "p" ++ decimal program ++ codes "more"

abbrev pub listed_name : ℕ → Bool → ℕ → List ℕ
listed_name program listed cut = if listed then place_name program cut else more_name program

unfoldable pub block_link : ℕ → Bool → CutCount → List ℕ
block_link program listed c = piece_text piece.FailingLink ++ listed_name program listed c.cut

-- what stands beside the pointer: the first failing cut, and how many of the block fail
unfoldable pub block_title : ℕ → ℕ → ℕ → CutCount → List ℕ
block_title from to count c = failing_title c ++ piece_text piece.BlockCuts ++ range_text from to ++ piece_text piece.BlockFailing ++ decimal count

-- the cuts of a block at which something fails, in the colour of the first
unfoldable pub block_failing : List Entry → ℕ → List CutCount → ℕ → ℕ → CutCount → List ℕ
block_failing es program cs from to c =
    failing_class (epoch_at es from) c ++ block_link program (is_listed cs from) c ++ block_title from to (count_within from to cs) c ++ piece_text piece.FailingClose

-- the cuts of a block, if it has wanted ones
abbrev pub no_failing : List Entry → List CutCount → ℕ → ℕ → List ℕ
no_failing es cs from to = if list_any (is_within from to) cs then passing_text (epoch_at es from) else []

abbrev pub block_cuts : List Entry → ℕ → List CutCount → ℕ → ℕ → List ℕ
block_cuts es program cs from to = option_map_or (block_failing es program cs from to) (find (fails_within from to) cs) (no_failing es cs from to)

-- a flush that is missing in a block; it leads to the block's lines
unfoldable pub lack_link : ℕ → ℕ → ℕ → List ℕ
lack_link program entry from = piece_text piece.LackOpen ++ flush_name program entry ++ piece_text piece.CellLink ++ decimal from

unfoldable pub lack_text : JudgedKind → ℕ → ℕ → MissingFlush → List ℕ
lack_text of program from m = lack_link program m.at from ++ flush_title of m ++ piece_text piece.LackClose

abbrev pub lacks_within : ℕ → ℕ → MissingFlush → Bool
lacks_within from to m = nat_le from m.at && nat_lt m.at to

abbrev pub block_lack : JudgedKind → ℕ → ℕ → ℕ → MissingFlush → List ℕ
block_lack of program from to m = if lacks_within from to m then lack_text of program from m else []

abbrev pub first_lack : JudgedKind → ℕ → ℕ → ℕ → List MissingFlush → List ℕ
first_lack of program from to ms = option_map_or (lack_text of program from) (find (lacks_within from to) ms) []

-- those of a block that are named in words, or the first, where none is
abbrev pub block_lacks : JudgedKind → ℕ → ℕ → ℕ → List MissingFlush → List ℕ
block_lacks of program from to ms =
    if list_any (lacks_within from to) (take most_named ms) then flat_map (block_lack of program from to) (take most_named ms) else first_lack of program from to ms

-- the cell of the entries of a block: whether some of them write, and whether one is a mark
abbrev pub is_mark : Entry → Bool
is_mark e = e.flags.mark

unfoldable pub kinds_text : List Entry → List ℕ
kinds_text es = word_text (list_any is_write es) (codes "write") ++ word_text (list_any is_mark es) (codes "mark")

unfoldable pub entries_class : List Entry → ℕ → ℕ → List ℕ
entries_class es from end = piece_text piece.CellOpen ++ shade_text (epoch_at es from) ++ kinds_text (slice_range es from end)

unfoldable pub entries_link : ℕ → ℕ → List ℕ
entries_link from end = piece_text piece.CellLink ++ decimal from ++ piece_text piece.LinkEnd ++ range_text from end

unfoldable pub entries_cell : List Entry → ℕ → ℕ → List ℕ
entries_cell es from end = entries_class es from end ++ entries_link from end ++ piece_text piece.CellClose

abbrev pub block_cell : List Entry → ℕ → List ℕ
block_cell es from = if nat_lt from (length es) then entries_cell es from (end_of es from) else []

-- a block in the row: its cuts, the flushes that are missing, and its entries
unfoldable pub row_block : JudgedKind → List Entry → ℕ → List MissingFlush → List CutCount → ℕ → List ℕ
row_block of es program ms cs from =
    block_cuts es program cs from (beyond es from) ++ block_lacks of program from (beyond es from) ms ++ block_cell es from

abbrev pub row_at : JudgedKind → List Entry → ℕ → List MissingFlush → List CutCount → ℕ → List ℕ
row_at of es program ms cs n = if begins_block es n then row_block of es program ms cs n else []

unfoldable pub row_blocks : JudgedKind → List Entry → ℕ → List MissingFlush → List CutCount → List ℕ
row_blocks of es program ms cs = flat_map (row_at of es program ms cs) (range_with_len 0 (length es + 1))

-- for what a cell of a large log stands
unfoldable pub cell_means : JudgedKind → List Entry → List ℕ
cell_means of es = piece_text piece.WidthOpen ++ decimal (width_of es) ++ piece_text piece.WidthClose ++ kind_word of ++ piece_text piece.WidthEnd

abbrev pub width_text : JudgedKind → List Entry → List ℕ
width_text of es = if is_large es then cell_means of es else []

-- the line of an entry in its block: its number, its epoch, and what it asks of the device
unfoldable pub short_line : ℕ → ℕ → Entry → List ℕ
short_line number epoch e = decimal number ++ codes " " ++ decimal epoch ++ what_text e ++ codes "\n"

abbrev pub short_at : List Entry → ℕ → List ℕ
short_at es n = option_map_or (short_line n (epoch_at es n)) (slice_get es n) []

abbrev pub line_text : List Entry → ℕ → List ℕ
line_text es n = html (short_at es n)

unfoldable pub lines_text : List Entry → ℕ → ℕ → List ℕ
lines_text es from end = flat_map (line_text es) (range_with_len from (end - from))

unfoldable pub block_name : ℕ → ℕ → List ℕ
block_name from end = piece_text piece.BlockOpen ++ decimal from ++ piece_text piece.BlockName ++ range_text from end ++ piece_text piece.BlockLines

unfoldable pub list_block : List Entry → ℕ → ℕ → List ℕ
list_block es from end = block_name from end ++ lines_text es from end ++ piece_text piece.BlockClose

abbrev pub list_at : List Entry → ℕ → List ℕ
list_at es n = if begins_block es n then list_block es n (end_of es n) else []

unfoldable pub list_blocks : List Entry → List ℕ
list_blocks es = flat_map (list_at es) (range_with_len 0 (length es))

-- the entries of a large log
unfoldable pub large_list : List Entry → List ℕ
large_list es = piece_text piece.BlocksOpen ++ list_blocks es ++ piece_text piece.SectionClose
