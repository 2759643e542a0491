-- The number of the inputs of a run (docs/OUTPUT.md, The text of a part), and the line that says of what a report is (docs/OUTPUT.md, The
-- inputs of a report).
use Rattle.std.specs.Prelude.{ℕ, false, ◌+◌, ◌*◌, ◌%◌, ◌^◌, List, [], ◌∷◌, ◌++◌, length, codes}
use Rattle.std.specs.Fmt.{decimal}
use Rattle.std.specs.Int.{to_le_bytes, w64}
use Rattle.std.specs.List.{fold, flat_map}
use Rattle.logfmt.specs.Bounds.{LogValue}
use Rattle.images.specs.Number.{initial_number}
use Rattle.report.specs.Report.{HeadValue, options_text}
use Rattle.request.specs.declared.settings.Settings.{Settings}
use Rattle.request.specs.Source.{images_of}

-- a number with one more byte
abbrev pub with_byte : ℕ → ℕ → ℕ
with_byte number byte = (number * 1099511628211 + byte + 1) % 2 ^ 64

-- the bytes of a file, and after them the eight bytes of its length
abbrev pub file_bytes : List ℕ → List ℕ
file_bytes file = file ++ to_le_bytes w64 (length file)

-- the number of the bytes of the log and of each program
unfoldable pub inputs_number : List ℕ → List (List ℕ) → ℕ
inputs_number log programs = fold with_byte 0 (flat_map file_bytes (log ∷ programs))

-- the number of a report: that of the bytes of the log, and of the line of its options, which has the number of what the device held before
abbrev pub report_number : List ℕ → List ℕ → ℕ
report_number log options = inputs_number log (options ∷ [])

-- the line that says of which log and options a text is
unfoldable pub number_line : ℕ → List ℕ
number_line number = codes "inputs " ++ decimal number ++ codes "\n"

-- the line that says of which log and options a report is, and of how many programs
unfoldable pub inputs_line : ℕ → ℕ → List ℕ
inputs_line number programs = codes "inputs " ++ decimal number ++ codes " programs " ++ decimal programs ++ codes "\n"

-- what stands at the head of a report of the log, but for its programs: it is of all failing images
unfoldable pub head_given : Settings → LogValue → HeadValue
head_given s value = record {
  sectors = s.sectors;
  entries = length value.entries;
  cuts = s.cuts;
  bound = s.bound;
  tears = s.tears;
  by = s.by;
  first = false;
  programs = [];
  images = length (images_of s value);
  base = initial_number value;
}

-- the line of the options
abbrev pub options_given : Settings → LogValue → List ℕ
options_given s value = options_text (head_given s value)
