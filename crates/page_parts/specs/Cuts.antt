-- What is said of a cut at which something fails, before its groups or cases; and how many of these are shown.
use Rattle.std.specs.Prelude.{ℕ, ◌==◌, min, Bool, if◌then◌else◌, List, [], ◌++◌}
use Rattle.std.specs.Fmt.{decimal}
use Rattle.logfmt.specs.declared.entry.Entry.{Entry}
use Rattle.epochs.specs.Units.{epoch_at, marks_at}
use Rattle.page_parts.specs.declared.counts.CutCount.{CutCount}
use Rattle.page_parts.specs.declared.pieces.PagePart.TheVariants as piece
use Rattle.page_parts.specs.Pieces.{piece_text}
use Rattle.page_parts.specs.declared.cut.Showing.{Showing}
use Rattle.page_parts.specs.declared.counts.JudgedKind.{JudgedKind}
use Rattle.page_parts.specs.Counts.{kind_word}
use Rattle.page_parts.specs.Shares.{share_of, share_class}
use Rattle.page_parts.specs.Cells.{place_name, count_text}
use Rattle.page_parts.specs.Blocks.{most_cells, more_name}

-- where a cut stands
unfoldable pub stand_text : List Entry → ℕ → List ℕ
stand_text es cut =
    piece_text piece.CutNumber ++ decimal cut ++ piece_text piece.CutEpoch ++ decimal (epoch_at es cut) ++ piece_text piece.CutMarks
    ++ decimal (marks_at es cut) ++ piece_text piece.CutMarksEnd

-- how much of it fails, in words and as a bar
unfoldable pub bar_text : CutCount → List ℕ
bar_text c =
    piece_text piece.BarOpen ++ count_text c ++ piece_text piece.BarMost ++ decimal c.all ++ piece_text piece.BarValue ++ decimal c.failing ++ piece_text piece.BarClose

abbrev pub cut_line : Bool → List ℕ
cut_line is_open = if is_open then piece_text piece.CutOpened else piece_text piece.CutLine

unfoldable pub cut_open : Bool → CutCount → List ℕ
cut_open is_open c = piece_text piece.CutOpen ++ share_class (share_of c.all c.failing) ++ cut_line is_open

unfoldable pub cut_body : ℕ → ℕ → List ℕ
cut_body program cut = piece_text piece.CutBody ++ place_name program cut ++ piece_text piece.OpenEnd

-- the line of a cut, with what only a cut of images has
unfoldable pub cut_begin : List Entry → Bool → CutCount → List ℕ
cut_begin es is_open c = cut_open is_open c ++ stand_text es c.cut ++ bar_text c

-- how many of a cut's groups or cases are shown, where `left` more may be on the page
abbrev pub most_of_cut : ℕ
most_of_cut = 8

abbrev pub shown_of : ℕ → ℕ → ℕ
shown_of left rows = min left (min most_of_cut rows)

-- how many cuts a cut at which that much fails is
abbrev pub one_failing : ℕ → ℕ
one_failing failing = if failing == 0 then 0 else 1

-- how a cut with `rows` groups or cases is shown, where `lines` failing cuts may still be listed and `left` groups or cases shown; the first
-- failing cut is open
abbrev pub showing : ℕ → ℕ → ℕ → ℕ → Showing
showing program lines left rows = record { program = program; is_open = lines == most_cells; rows = shown_of left rows }

-- how many cuts at which something fails aren't listed
unfoldable pub more_count : JudgedKind → ℕ → List ℕ
more_count of n = decimal n ++ piece_text piece.MoreCuts ++ kind_word of ++ piece_text piece.MoreClose

unfoldable pub unlisted_text : JudgedKind → ℕ → ℕ → List ℕ
unlisted_text of program n = if n == 0 then [] else piece_text piece.MoreOpen ++ more_name program ++ piece_text piece.LinkEnd ++ more_count of n
