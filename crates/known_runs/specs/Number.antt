-- The number H of records (docs/OUTPUT.md, Records of a program of yours): of a log, and of the options on which an image hangs.
use Rattle.std.specs.Prelude.{ℕ, List, ◌++◌, length, codes}
use Rattle.std.specs.Fmt.{decimal}
use Rattle.logfmt.specs.Bounds.{LogValue}
use Rattle.epochs.specs.declared.part.By.{By}
use Rattle.epochs.specs.declared.part.By.TheVariants.{Sector, Write}
use Rattle.images.specs.Number.{initial_number}
use Rattle.report.specs.Report.{base_words}
use Rattle.request.specs.declared.settings.Settings.{Settings}
use Rattle.request.specs.Inputs.{report_number}
use Rattle.known_text.specs.Texts.{Source}
use Rattle.known_runs.specs.Asked.{KnownAsked}

-- what departs as one
abbrev pub by_word : By → List ℕ
by_word Sector = codes "sector"
by_word Write = codes "write"

-- the line of the options on which an image hangs
unfoldable pub image_line : Settings → LogValue → List ℕ
image_line s value =
    codes "sectors " ++ decimal s.sectors ++ codes " entries " ++ decimal (length value.entries) ++ codes " by " ++ by_word s.by ++ base_words (initial_number value)
    ++ codes "\n"

-- the number of the bytes of a log and of that line
abbrev pub records_number : List ℕ → Settings → LogValue → ℕ
records_number file s value = report_number file (image_line s value)

-- of what a text of records has to be: of the log without flushes that are added
abbrev pub source_of : KnownAsked → LogValue → Source
source_of a plain = record { log = plain; way = a.settings.by; inputs = records_number a.text.text a.settings plain }
