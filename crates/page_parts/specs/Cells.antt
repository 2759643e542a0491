-- The cuts between the entries of a log, a cell for each.
use Rattle.std.specs.Prelude.{ℕ, ◌==◌, if◌then◌else◌, List, [], ◌∷◌, ◌++◌, codes, length}
use Rattle.std.specs.Fmt.{decimal}
use Rattle.logfmt.specs.declared.entry.Entry.{Entry}
use Rattle.epochs.specs.Units.{epoch_at}
use Rattle.losses.specs.declared.flushes.counted.MissingFlush.{MissingFlush}
use Rattle.page_parts.specs.declared.pieces.PagePart.TheVariants as piece
use Rattle.page_parts.specs.Pieces.{piece_text}
use Rattle.page_parts.specs.declared.counts.CutCount.{CutCount}
use Rattle.page_parts.specs.declared.counts.JudgedKind.{JudgedKind}
use Rattle.page_parts.specs.Counts.{kind_word}
use Rattle.page_parts.specs.declared.share.Share.TheVariants as share
use Rattle.page_parts.specs.Shares.{share_of, share_class}
use Rattle.page_parts.specs.Entries.{shade_text, cells_text}

-- the name of a cut's place on the page
unfoldable pub place_name : ℕ → ℕ → List ℕ
place_name program cut = codes "p" ++ decimal program ++ codes "c" ++ decimal cut

-- how much of a cut fails
unfoldable pub count_text : CutCount → List ℕ
count_text c = decimal c.failing ++ piece_text piece.Of ++ decimal c.all ++ codes " " ++ kind_word c.of ++ codes " fail"

-- a cut at which nothing fails
unfoldable pub passing_text : ℕ → List ℕ
passing_text epoch = piece_text piece.PassingOpen ++ share_class share.No ++ shade_text epoch ++ piece_text piece.PassingClose

-- a cut at which something does: its colour, where it leads to, and what stands beside the pointer
unfoldable pub failing_class : ℕ → CutCount → List ℕ
failing_class epoch c = piece_text piece.FailingOpen ++ share_class (share_of c.all c.failing) ++ shade_text epoch

unfoldable pub failing_link : ℕ → CutCount → List ℕ
failing_link program c = piece_text piece.FailingLink ++ place_name program c.cut

unfoldable pub failing_title : CutCount → List ℕ
failing_title c = piece_text piece.FailingTitle ++ decimal c.cut ++ codes ": " ++ count_text c

unfoldable pub failing_text : ℕ → ℕ → CutCount → List ℕ
failing_text program epoch c = failing_class epoch c ++ failing_link program c ++ failing_title c ++ piece_text piece.FailingClose

abbrev pub cut_cell : List Entry → ℕ → CutCount → List ℕ
cut_cell es program c = if c.failing == 0 then passing_text (epoch_at es c.cut) else failing_text program (epoch_at es c.cut) c

-- the entries from `from` on with the flushes that are missing, and each of the cuts before the entry of its number
abbrev pub strip_from : JudgedKind → List Entry → ℕ → List MissingFlush → ℕ → List CutCount → List ℕ
strip_from of es program ms from [] = cells_text of es program ms from (length es)
strip_from of es program ms from (c ∷ cs) = cells_text of es program ms from c.cut ++ cut_cell es program c ++ strip_from of es program ms c.cut cs
