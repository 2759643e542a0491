-- The bytes of the report (docs/OUTPUT.md). Each line ends with one newline; numbers are decimal.
use Rattle.std.specs.Prelude.{ℕ, ◌+◌, Bool, true, false, List, [], ◌∷◌, ◌++◌, length, Option, None, Some, codes}
use Rattle.std.specs.Fmt.{decimal}
use Rattle.std.specs.List.{flat_map}
use Rattle.epochs.specs.declared.cuts.Cuts.{Cuts}
use Rattle.epochs.specs.declared.part.By.{By}
use Rattle.report.specs.declared.head.ProgramHead.{ProgramHead}
use Rattle.report.specs.Line.{FailingLine, first_lines}
use Rattle.report.specs.Images.{failing_images, first_image}
pub use Rattle.report.specs.LineText.{line_text}
use Rattle.report.specs.Words.{cuts_words}
use Rattle.report.specs.Text.{yes_or_no, cuts_word, by_words}

-- what the report says at its head, and how many images there are
pub record HeadValue : Type 0 where
  pub sectors : ℕ
  pub entries : ℕ
  pub cuts : Cuts
  pub bound : ℕ
  pub tears : Bool
  pub by : By
  pub first : Bool
  pub programs : List ProgramHead
  pub images : ℕ
  pub base : Option ℕ

-- the number of what the device held before entry 0, where that is given
abbrev pub base_words : Option ℕ → List ℕ
base_words None = []
base_words (Some number) = codes " base " ++ decimal number

-- the line of the options, in three parts
unfoldable pub device_text : HeadValue → List ℕ
device_text h =
    codes "sectors " ++ decimal h.sectors ++ codes " entries " ++ decimal h.entries ++ codes " cuts " ++ cuts_word h.cuts.kind

unfoldable pub choices_text : HeadValue → List ℕ
choices_text h =
    codes " bound " ++ decimal h.bound ++ codes " tears " ++ yes_or_no h.tears ++ codes " first " ++ yes_or_no h.first

unfoldable pub given_text : HeadValue → List ℕ
given_text h =
    by_words h.by ++ cuts_words h.cuts ++ base_words h.base ++ codes "\n"

abbrev pub options_line : HeadValue → List ℕ
options_line h = device_text h ++ choices_text h ++ given_text h

-- what the most steps of a run are called
abbrev pub steps_word : Bool → List ℕ
steps_word true = codes "budget"
steps_word false = codes "limit"

-- how many slots are guarded, where the program was accepted with guards
abbrev pub guards_words : Option ℕ → List ℕ
guards_words None = []
guards_words (Some number) = codes " guards " ++ decimal number

-- the most steps of a run, and how many slots are guarded where some may be
abbrev pub steps_text : ProgramHead → List ℕ
steps_text p = steps_word p.verified ++ codes " " ++ decimal p.limit ++ guards_words p.guards

-- the line of a program, with its number
unfoldable pub program_line : ℕ → ProgramHead → List ℕ
program_line number p =
    codes "program " ++ decimal number ++ codes " slots " ++ decimal p.slots ++ codes " " ++ steps_text p ++ codes "\n"

abbrev pub program_lines : ℕ → List ProgramHead → List ℕ
program_lines number [] = []
program_lines number (p ∷ ps) = program_line number p ++ program_lines (number + 1) ps

unfoldable pub totals_line : ℕ → List FailingLine → List ℕ
totals_line images ls =
    codes "images " ++ decimal images ++ codes " failing " ++ decimal (failing_images ls) ++ codes " lines " ++ decimal (length ls) ++ codes "\n"

-- an image, where there is one
abbrev pub image_text : Option ℕ → List ℕ
image_text None = codes "none"
image_text (Some image) = decimal image

unfoldable pub first_line : ℕ → List FailingLine → List ℕ
first_line images ls = codes "images " ++ decimal images ++ codes " first " ++ image_text (first_image ls) ++ codes "\n"

-- the failing lines that are shown: all of them, or those of the first failing image alone
abbrev pub shown_lines : Bool → List FailingLine → List FailingLine
shown_lines false ls = ls
shown_lines true ls = first_lines ls

abbrev pub last_line : Bool → ℕ → List FailingLine → List ℕ
last_line false images ls = totals_line images ls
last_line true images ls = first_line images (first_lines ls)

abbrev pub findings_text : Bool → ℕ → List FailingLine → List ℕ
findings_text first images ls = flat_map line_text (shown_lines first ls) ++ last_line first images ls

-- the options and the programs
abbrev pub options_text : HeadValue → List ℕ
options_text h = options_line h ++ program_lines 0 h.programs

-- what stands before the failing lines
abbrev pub head_text : HeadValue → List ℕ
head_text h = codes "crash report 2\n" ++ options_text h

unfoldable pub report_bytes : HeadValue → List FailingLine → List ℕ
report_bytes h ls =
    codes "crash report 2\n" ++ options_line h ++ program_lines 0 h.programs ++ findings_text h.first h.images ls
