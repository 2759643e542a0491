-- At which line of C each slot of a program comes (docs/CHECKERS.md, CHECK.lines). A text is the list of its bytes.
use Rattle.std.specs.Prelude.{ℕ, ◌≡◌, ◌⊎◌, ◌==◌, nat_le, nat_lt, Bool, not, ◌&&◌, ◌||◌, if◌then◌else◌, List, [], ◌∷◌, ◌++◌, length, map, slice_index, bytes_eq, codes, Option, None, Some}
use Rattle.std.specs.List.{before_first, after_first, find, list_all, slice_split}
use Rattle.std.specs.Char.{is_ascii_digit, is_ascii_graphic}
use Rattle.std.specs.Int.{is_in_range}
use Rattle.std.specs.Option.{option_and_then, option_map, option_map_or}
use Rattle.std.specs.Str.{IsUtf8}
use Rattle.std.specs.Fmt.{decimal}
use Rattle.notes.specs.declared.sources.SourceLine.{SourceLine}

-- a line of such a text, without its newline: a slot, the name of a file and the number of a line of it, each as it is written
pub record LineOfC : Type 0 where
  pub slot : List ℕ
  pub file : List ℕ
  pub number : List ℕ

-- a number from 1 on, of at most ten decimal digits, without a zero in front
abbrev pub is_positive : List ℕ → Bool
is_positive word = is_in_range 1 10 (length word) && not (slice_index word 0 == 48) && list_all is_ascii_digit word

-- such a number, or 0
abbrev pub is_zero : List ℕ → Bool
is_zero word = (length word == 1) && (slice_index word 0 == 48)

abbrev pub is_slot : List ℕ → Bool
is_slot word = is_zero word || is_positive word

-- one printable ASCII character or more, and no blank
abbrev pub is_name : List ℕ → Bool
is_name word = nat_lt 0 (length word) && list_all is_ascii_graphic word

-- what three words say, if they are such words
abbrev pub said : List ℕ → List ℕ → List ℕ → Option LineOfC
said slot file number = if is_slot slot && is_name file && is_positive number then Some (record { slot = slot; file = file; number = number }) else None

abbrev pub is_blank : ℕ → Bool
is_blank c = c == 32

abbrev pub is_newline : ℕ → Bool
is_newline c = c == 10

-- what a line says: a word, a blank, a word, a blank, and a word
abbrev pub line_of : List ℕ → Option LineOfC
line_of line = said (before_first is_blank line) (before_first is_blank (after_first is_blank line)) (after_first is_blank (after_first is_blank line))

-- what lines say, of which each but the last ends with a newline, and the last is empty; none where one of them says nothing
abbrev pub all_said : List (List ℕ) → Option (List LineOfC)
all_said [] = None
all_said (last ∷ []) = if nat_lt 0 (length last) then None else Some []
all_said (line ∷ next ∷ more) = option_and_then (λ (l : LineOfC). option_map (λ (ls : List LineOfC). l ∷ ls) (all_said (next ∷ more))) (line_of line)

-- at most 65,536 lines
abbrev pub few_lines : List LineOfC → Option (List LineOfC)
few_lines ls = if nat_le (length ls) 65536 then Some ls else None

-- what the lines of a text of at most 1 MiB say
unfoldable pub table_of : List ℕ → Option (List LineOfC)
table_of bytes = if nat_le (length bytes) 1048576 then option_and_then few_lines (all_said (slice_split is_newline bytes)) else None

-- these before those that others say
abbrev pub onto : List LineOfC → Option (List LineOfC) → Option (List LineOfC)
onto first others = option_map (λ (ls : List LineOfC). first ++ ls) others

-- bytes are a text of such lines
pub record AreLines (bytes : List ℕ) (table : List LineOfC) : Type 0 where
  pub characters : IsUtf8 bytes
  pub tells : table_of bytes ≡ Some table

-- bytes are no such text
abbrev pub NoLines : List ℕ → Type 0
NoLines bytes = (IsUtf8 bytes → ⊥) ⊎ (table_of bytes ≡ None)

-- the place in C of a slot, after what else is said of it: that of its first line; nothing where it has none
unfoldable pub source_text : List LineOfC → ℕ → List ℕ
source_text table slot = option_map_or (λ (l : LineOfC). codes " # " ++ l.file ++ codes ":" ++ l.number) (find (λ (l : LineOfC). bytes_eq l.slot (decimal slot)) table) []

-- the lines that were read
abbrev pub value_of : SourceLine → LineOfC
value_of l = record { slot = l.slot.now; file = l.file.now; number = l.number.now }

abbrev pub values_of : List SourceLine → List LineOfC
values_of ls = map value_of ls
