-- A log as a table, an entry a line (docs/OUTPUT.md, The text of `log`).
use Rattle.std.specs.Prelude.{ℕ, ◌==◌, Bool, not, ◌&&◌, nat_lt, if◌then◌else◌, List, [], ◌++◌, length, codes, slice_get}
use Rattle.std.specs.List.{flat_map, range_with_len}
use Rattle.std.specs.Option.{option_map_or}
use Rattle.std.specs.Fmt.{decimal}
use Rattle.logfmt.specs.declared.entry.Entry.{Entry}
use Rattle.logfmt.specs.declared.flags.Flags.{Flags}
use Rattle.epochs.specs.Units.{epoch_at}
use Rattle.crash_text.specs.Escaped.{escaped_text}

-- a word that stands where something is so
abbrev pub word_text : Bool → List ℕ → List ℕ
word_text is_so word = if is_so then codes " " ++ word else []

-- a write has sectors, and they are no discarded ones
abbrev pub is_write : Entry → Bool
is_write e = nat_lt 0 e.count && not e.flags.discard

abbrev pub flags_text : Flags → List ℕ
flags_text f =
    word_text f.flush (codes "flush") ++ word_text f.fua (codes "fua") ++ word_text f.discard (codes "discard")
    ++ word_text f.mark (codes "mark") ++ word_text f.metadata (codes "metadata")

-- unit j of the entry is sector `sector` + j of the device
abbrev pub sectors_text : Entry → List ℕ
sectors_text e = if e.count == 0 then [] else codes " sector " ++ decimal e.sector ++ codes " count " ++ decimal e.count

abbrev pub mark_text : Entry → List ℕ
mark_text e = if e.flags.mark then codes " text \"" ++ escaped_text e.text ++ codes "\"" else []

unfoldable pub head_text : ℕ → ℕ → List ℕ
head_text number epoch = codes "entry " ++ decimal number ++ codes " epoch " ++ decimal epoch

unfoldable pub what_text : Entry → List ℕ
what_text e = word_text (is_write e) (codes "write") ++ flags_text e.flags ++ sectors_text e ++ mark_text e

unfoldable pub entry_line : ℕ → ℕ → Entry → List ℕ
entry_line number epoch e = head_text number epoch ++ what_text e ++ codes "\n"

abbrev pub line_at : List Entry → ℕ → List ℕ
line_at es n = option_map_or (entry_line n (epoch_at es n)) (slice_get es n) []

abbrev pub log_table : List Entry → List ℕ
log_table es = flat_map (line_at es) (range_with_len 0 (length es))

-- the note that shows an entry
abbrev pub noted_line : ℕ → ℕ → Entry → List ℕ
noted_line number epoch e = codes "note: " ++ entry_line number epoch e

abbrev pub entry_note : List Entry → ℕ → List ℕ
entry_note es n = option_map_or (noted_line n (epoch_at es n)) (slice_get es n) []
