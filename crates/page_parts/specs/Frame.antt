-- What stands on a page around the cuts of its programs (docs/OUTPUT.md, The page of `page`).
use Rattle.std.specs.Prelude.{ℕ, nat_lt, if◌then◌else◌, List, [], ◌++◌, codes, length}
use Rattle.std.specs.Fmt.{decimal}
use Rattle.logfmt.specs.declared.entry.Entry.{Entry}
use Rattle.logfmt.specs.Bounds.{LogValue}
use Rattle.crash_text.specs.LogTable.{word_text}
use Rattle.losses.specs.declared.flushes.counted.MissingFlush.{MissingFlush}
use Rattle.page_parts.specs.declared.counts.CutCount.{CutCount}
use Rattle.page_parts.specs.declared.counts.JudgedKind.{JudgedKind}
use Rattle.page_parts.specs.declared.counts.JudgedKind.TheVariants as kind
use Rattle.page_parts.specs.declared.pieces.PagePart.TheVariants as piece
use Rattle.page_parts.specs.Pieces.{piece_text}
use Rattle.page_parts.specs.declared.judge.PageJudge.{PageJudge}
use Rattle.page_parts.specs.Html.{html}
use Rattle.page_parts.specs.Judges.{judge_text}
use Rattle.page_parts.specs.Entries.{rows_text}
use Rattle.page_parts.specs.Cells.{strip_from}
use Rattle.page_parts.specs.Blocks.{is_large, width_text, row_blocks, large_list}

-- the row of entries and cuts, narrow where there are many entries, and in blocks where the log is large
unfoldable pub strip_open : JudgedKind → List Entry → List ℕ
strip_open of es = width_text of es ++ piece_text piece.StripOpen ++ word_text (nat_lt 400 (length es)) (codes "many") ++ piece_text piece.OpenEnd

abbrev pub row_of : JudgedKind → List Entry → ℕ → List MissingFlush → List CutCount → List ℕ
row_of of es program ms cs = if is_large es then row_blocks of es program ms cs else strip_from of es program ms 0 cs

unfoldable pub strip_text : JudgedKind → List Entry → ℕ → List MissingFlush → List CutCount → List ℕ
strip_text of es program ms cs = strip_open of es ++ row_of of es program ms cs ++ piece_text piece.StripClose

-- how many groups or cases of a program are shown, fewer where the log is large
abbrev pub most_of_program : List Entry → ℕ
most_of_program es = if is_large es then 100 else 500

-- the program: its number, and what the report says of it
unfoldable pub name_text : ℕ → PageJudge → List ℕ
name_text program j = decimal program ++ codes ": " ++ judge_text j

unfoldable pub title_text : ℕ → PageJudge → List ℕ
title_text program j =
    piece_text piece.ProgramOpen ++ decimal program ++ piece_text piece.ProgramId ++ decimal program ++ piece_text piece.ProgramName ++ name_text program j
    ++ piece_text piece.ProgramClose

unfoldable pub about_text : List ℕ → List ℕ
about_text about = piece_text piece.AboutOpen ++ html about ++ piece_text piece.AboutClose

unfoldable pub small_list : List Entry → List ℕ
small_list es = piece_text piece.ListOpen ++ rows_text es ++ piece_text piece.ListClose

abbrev pub list_text : List Entry → List ℕ
list_text es = if is_large es then large_list es else small_list es

-- the log: how many entries it has, and of how many sectors its device is
unfoldable pub log_name : LogValue → List ℕ
log_name l = codes "entries " ++ decimal (length l.entries) ++ codes ", sectors " ++ decimal l.sectors

-- the style, with that of cases where these stand on the page
abbrev pub own_style : JudgedKind → List ℕ
own_style kind.Images = []
own_style kind.Cases = piece_text piece.CaseStyle

unfoldable pub style_text : JudgedKind → List ℕ
style_text of = piece_text piece.Style ++ own_style of ++ piece_text piece.StyleEnd

-- the head of the page, which names the log in its title and in its first line
unfoldable pub head_text : JudgedKind → LogValue → List ℕ
head_text of l = piece_text piece.Opening ++ log_name l ++ style_text of ++ log_name l ++ piece_text piece.HeadClose
