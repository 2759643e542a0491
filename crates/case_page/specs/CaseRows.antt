-- A failing case on a page: a row of the parts at risk (docs/OUTPUT.md, The page of `page --bound any`).
use Rattle.std.specs.Prelude.{ℕ, ◌+◌, ◌-◌, ◌==◌, ◌&&◌, nat_le, Bool, false, if◌then◌else◌, List, [], ◌∷◌, ◌++◌, codes, length, Option, None, Some}
use Rattle.std.specs.Fmt.{decimal}
use Rattle.epochs.specs.declared.part.Part.{Part}
use Rattle.choices.specs.declared.fate.Fate.{Fate}
use Rattle.report.specs.LineText.{ending_text}
use Rattle.crash_text.specs.LogTable.{word_text}
use Rattle.losses.specs.declared.flushes.window.Window.{Window}
use Rattle.cases.specs.AtCut.{CutValue, parts_of, case_of}
use Rattle.cases.specs.Cases.{Case}
use Rattle.losses.specs.FoundCases.{FailingValue}
use Rattle.case_text.specs.Known.{is_kept, is_free, is_never_whole}
use Rattle.case_text.specs.Text.{fates_text, part_name}
use Rattle.case_text.specs.Window.{case_window}
use Rattle.case_page.specs.declared.parts.PartState.{PartState}
use Rattle.case_page.specs.declared.parts.PartState.TheVariants as state
use Rattle.case_page.specs.declared.parts.Room.{Room}
use Rattle.case_page.specs.declared.parts.CaseRow.{CaseRow}
use Rattle.page_parts.specs.declared.pieces.PagePart.TheVariants as piece
use Rattle.page_parts.specs.Pieces.{piece_text}

-- what becomes of a part: anything, it is whole, it isn't, or either
abbrev pub state_of : Bool → List (Option Fate) → PartState
state_of tears fates =
    if is_free tears fates then state.Free else if is_kept fates then state.Kept else if is_never_whole fates then state.Lost else state.Mixed

unfoldable pub state_word : PartState → List ℕ
state_word state.Free = codes "free"
state_word state.Kept = codes "kept"
state_word state.Lost = codes "lost"
state_word state.Mixed = codes "some"

-- how many parts of a case are shown of each of these, the first ones
abbrev pub most_of_state : ℕ
most_of_state = 32

abbrev pub full_room : Room
full_room = record { free = most_of_state; kept = most_of_state; lost = most_of_state; mixed = most_of_state }

-- how many more of one may be shown, and how many more of each after one of these
abbrev pub room_of : Room → PartState → ℕ
room_of room state.Free = room.free
room_of room state.Kept = room.kept
room_of room state.Lost = room.lost
room_of room state.Mixed = room.mixed

abbrev pub less_room : Room → PartState → Room
less_room room state.Free = record { free = room.free - 1; kept = room.kept; lost = room.lost; mixed = room.mixed }
less_room room state.Kept = record { free = room.free; kept = room.kept - 1; lost = room.lost; mixed = room.mixed }
less_room room state.Lost = record { free = room.free; kept = room.kept; lost = room.lost - 1; mixed = room.mixed }
less_room room state.Mixed = record { free = room.free; kept = room.kept; lost = room.lost; mixed = room.mixed - 1 }

abbrev pub room_left : Room → ℕ
room_left room = room.free + room.kept + room.lost + room.mixed

-- a flush before the entry takes all images of the case away
abbrev pub is_inside : Option Window → ℕ → Bool
is_inside None e = false
is_inside (Some w) e = nat_le w.start e && nat_le e w.end

-- a part at risk: its colour, what may become of it beside the pointer, and its name
unfoldable pub part_class : CaseRow → PartState → Part → List ℕ
part_class row s p = piece_text piece.PartOpen ++ state_word s ++ word_text (is_inside row.window p.entry) (codes "in")

unfoldable pub part_cell : CaseRow → Part → List (Option Fate) → List ℕ
part_cell row p fates =
    part_class row (state_of row.tears fates) p ++ piece_text piece.PartTitle ++ fates_text fates ++ piece_text piece.LinkEnd ++ part_name row.by p
    ++ piece_text piece.PartClose

abbrev pub part_shown : CaseRow → Room → Part → List (Option Fate) → List ℕ
part_shown row room p fates = if room_of room (state_of row.tears fates) == 0 then [] else part_cell row p fates

-- how many parts aren't shown
unfoldable pub hidden_text : ℕ → List ℕ
hidden_text n = if n == 0 then [] else piece_text piece.PartsOpen ++ decimal n ++ piece_text piece.PartsClose

-- the parts at risk in the order of their entries, of `total` of which these are the last, where there is that much room
abbrev pub parts_from : CaseRow → Case → ℕ → Room → List Part → List ℕ
parts_from row c total room [] = hidden_text (total - (room_left full_room - room_left room))
parts_from row c total room (p ∷ parts) = part_shown row room p (c p) ++ parts_from row c total (less_room room (state_of row.tears (c p))) parts

abbrev pub all_parts : CaseRow → Case → List Part → List ℕ
all_parts row c parts = parts_from row c (length parts) full_room parts

-- where a flush takes the case away: before the one entry of its window, or before any of its entries
abbrev pub window_words : Window → List ℕ
window_words w =
    if w.start == w.end then piece_text piece.OneFlushHelps ++ decimal w.end
    else piece_text piece.FlushHelps ++ decimal w.start ++ codes " to " ++ decimal w.end

unfoldable pub helps_text : Option Window → List ℕ
helps_text None = piece_text piece.NoFlushHelps
helps_text (Some w) = window_words w ++ piece_text piece.HelpsClose

-- its number, what the program ends in, and where a flush helps
unfoldable pub case_said : FailingValue → Option Window → List ℕ
case_said f w = piece_text piece.CaseOpen ++ decimal f.number ++ codes ": " ++ ending_text f.ending ++ codes "; " ++ helps_text w

-- a failing case, by what is the same of each of its parts
unfoldable pub row_text : CaseRow → Case → List Part → FailingValue → List ℕ
row_text row c parts f = case_said f row.window ++ piece_text piece.CaseParts ++ all_parts row c parts ++ piece_text piece.CaseClose

abbrev pub row_at : CutValue → Bool → Case → CaseRow
row_at at tears c = record { by = at.way; tears = tears; window = case_window at c }

abbrev pub case_row : CutValue → Bool → FailingValue → List ℕ
case_row at tears f =
    row_text (row_at at tears (case_of tears (parts_of at) f.sets)) (case_of tears (parts_of at) f.sets) (parts_of at) f
