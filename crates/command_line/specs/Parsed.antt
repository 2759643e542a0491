-- What the words of a command ask for (docs/COMMANDS.md, Commands and Options).
use Rattle.std.specs.Prelude.{ℕ, ◌≡◌, ◌<◌, ◌++◌, Bool, true, false, ◌||◌, ◌&&◌, List, [], ◌∷◌, length, map, Option, None, Some, is_none, is_some, option_map, unwrap_or, MatchOption, IsSomeAnd, codes, bytes_eq, if◌then◌else◌}
use Rattle.std.specs.Borrow.{Bor}
use Rattle.base.specs.Check.{check, first_failing}
use Rattle.base.specs.Sizes.{sector_limit}
use Rattle.base.specs.declared.limits.Limits.{Limits}
use Rattle.base.specs.declared.limits.Limits.TheVariants as limits
use Rattle.epochs.specs.declared.cuts.CutKind.{CutKind}
use Rattle.epochs.specs.declared.cuts.CutKind.TheVariants as cuts
use Rattle.epochs.specs.declared.flushes.Flushes.{Flushes}
use Rattle.epochs.specs.Cuts.{all_cuts}
use Rattle.epochs.specs.Flushes.{places_of}
use Rattle.epochs.specs.declared.part.By.{By}
use Rattle.epochs.specs.declared.part.By.TheVariants as by
use Rattle.request.specs.declared.any_losses.LossWords.{LossWords}
use Rattle.request.specs.declared.command.OptionWords.{OptionWords}
use Rattle.request.specs.declared.known.KnownWords.{KnownWords}
use Rattle.request.specs.declared.command.Request.{Request}
use Rattle.request.specs.declared.command.Request.TheVariants as asks
use Rattle.request.specs.declared.command.Which.{Which}
use Rattle.request.specs.declared.command.Which.TheVariants as which
use Rattle.request.specs.declared.trials.TrialWords.{TrialWords}
use Rattle.request.specs.declared.settings.OptionPlace.{OptionPlace}
use Rattle.request.specs.declared.settings.OptionPlace.TheVariants as place
use Rattle.request.specs.declared.settings.Settings.{Settings}
use Rattle.request.specs.declared.settings.CaseTelling.{CaseTelling}
use Rattle.request.specs.declared.settings.CaseTelling.TheVariants as telling
use Rattle.request.specs.declared.settings.KnownTelling.{KnownTelling}
use Rattle.request.specs.declared.settings.KnownTelling.TheVariants as known
use Rattle.request.specs.declared.settings.Retelling.{Retelling}
use Rattle.request.specs.declared.settings.Retelling.TheVariants as retelling
use Rattle.clap.specs.Words.{first_value, matched_of, one_text, raw_values}
use Rattle.clap.specs.declared.parser.matches.Found.{Found}
use Rattle.command_line.specs.declared.parsed.Parsed.{Parsed}
use Rattle.command_line.specs.declared.parsed.Verb.{Verb}
use Rattle.command_line.specs.declared.parsed.Verb.TheVariants as verb
use Rattle.request.specs.declared.extent.Extent.{Extent}
use Rattle.request.specs.declared.extent.Extent.TheVariants as extent
use Rattle.command_line.specs.Number.{IsNumber}
use Rattle.command_line.specs.FlushList.{IsFlushList, NoFlushList}
use Rattle.command_line.specs.Extents.{IsRange, NoRange}

-- the bytes of a word, if it was written
abbrev pub word_bytes : Option (Bor (List ℕ)) → Option (List ℕ)
word_bytes = option_map (λ w. w.now)

-- the command that a name names
abbrev pub command_named : List ℕ → Option Verb
command_named name =
    if bytes_eq name (codes "explore") then Some verb.Explore
    else if bytes_eq name (codes "why") then Some verb.Why
    else if bytes_eq name (codes "cure") then Some verb.Cure
    else if bytes_eq name (codes "page") then Some verb.Page
    else if bytes_eq name (codes "images") then Some verb.Images
    else if bytes_eq name (codes "export") then Some verb.Export
    else if bytes_eq name (codes "image") then Some verb.Image
    else if bytes_eq name (codes "show") then Some verb.Show
    else if bytes_eq name (codes "log") then Some verb.Log
    else if bytes_eq name (codes "import") then Some verb.Import
    else if bytes_eq name (codes "verify") then Some verb.Verify
    else if bytes_eq name (codes "check") then Some verb.Check
    else if bytes_eq name (codes "asm") then Some verb.Asm
    else if bytes_eq name (codes "list") then Some verb.List
    else if bytes_eq name (codes "join") then Some verb.Join
    else None

-- the kind of cut after --cuts, all cuts where nothing is; none where the word is no kind of cut
abbrev pub cuts_named : Option (List ℕ) → Option CutKind
cuts_named None = Some cuts.All
cuts_named (Some word) =
    if bytes_eq word (codes "all") then Some cuts.All
    else if bytes_eq word (codes "flush") then Some cuts.BeforeFlush
    else if bytes_eq word (codes "mark") then Some cuts.AfterMark
    else None

-- the kind of part after --by, sectors where nothing is; none where the word is no kind of part
abbrev pub parts_named : Option (List ℕ) → Option By
parts_named None = Some by.Sector
parts_named (Some word) =
    if bytes_eq word (codes "sector") then Some by.Sector
    else if bytes_eq word (codes "write") then Some by.Write
    else None

-- whether the word after --bound is `any`
abbrev pub any_named : Option (List ℕ) → Bool
any_named None = false
any_named (Some word) = bytes_eq word (codes "any")

-- whether the word after --sectors is `base`
abbrev pub base_named : Option (List ℕ) → Bool
base_named None = false
base_named (Some word) = bytes_eq word (codes "base")

-- the flushes that are asked for: none without a word, and else those of the list that the word is; where it is none of 1 to 64
-- entries, that is kept
abbrev pub AreFlushes : Option (List ℕ) → Option Flushes → Type 0
AreFlushes None added = IsSomeAnd added (λ flushes. places_of flushes ≡ [])
AreFlushes (Some word) added = MatchOption added (NoFlushList 64 word) (λ flushes. IsFlushList word (places_of flushes))

-- the images that are asked for: those that the word after --images says, none where it says none; without a word all images, of
-- a run that may have as many as can be counted where the flag stands there
abbrev pub IsExtent : Option (List ℕ) → Bool → Option Extent → Type 0
IsExtent None true images = images ≡ Some extent.Wide
IsExtent None false images = images ≡ Some extent.Whole
IsExtent (Some word) wide images = MatchOption images (NoRange word) (λ e. (from : ℕ) × (to : ℕ) × IsRange word from to × (e ≡ extent.Part from to))

-- how large a log and its device may be
abbrev pub limits_named : Bool → Limits
limits_named large = if large then limits.Large else limits.Usual

-- the bound: 1 where none is written, and where `any` is, that number
abbrev pub bound_named : Parsed → ℕ → ℕ
bound_named p any = if p.any then any else unwrap_or p.bound 1

-- the number of sectors of the device: the most where none is written, or where `base` is and the file after --base is to say it; 0 where
-- `base` is and no file says it
abbrev pub sectors_named : Parsed → ℕ
sectors_named p = if p.is_sized && is_none p.base then 0 else unwrap_or p.sectors (sector_limit (limits_named p.large))

-- no flush is added
abbrev pub no_flushes : Flushes
no_flushes = all_cuts.flushes

-- what is asked for, with that bound for `any`, and these flushes and images: what isn't written has its default, and so has a word that
-- names nothing. All commands on a device but `log` want --sectors.
abbrev pub settings_named : Parsed → ℕ → Option Flushes → Option Extent → Settings
settings_named p any added meant = record {
  sectors = sectors_named p;
  limits = limits_named p.large;
  cuts = record { kind = unwrap_or (cuts_named (word_bytes p.cuts)) cuts.All; from = p.from; to = p.to; flushes = unwrap_or added no_flushes };
  bound = bound_named p any;
  tears = p.tears;
  by = unwrap_or (parts_named (word_bytes p.by)) by.Sector;
  workers = unwrap_or p.workers 1;
  cache = unwrap_or p.cache 0;
  checked = p.checked;
  guards = p.guards;
  first = p.first;
  extent = unwrap_or meant extent.Whole;
}

-- the first word that names nothing, where those after --flush and --images name these
abbrev pub unnamed_in : Parsed → Option Flushes → Option Extent → Option OptionPlace
unnamed_in p added meant = first_failing (
    check place.Cuts (is_some (cuts_named (word_bytes p.cuts)))
    ∷ check place.By (is_some (parts_named (word_bytes p.by)))
    ∷ check place.Flush (is_some added)
    ∷ check place.Images (is_some meant)
    ∷ [])

-- the options, with that bound for `any`, and these flushes and images
abbrev pub options_with : Parsed → ℕ → Option Flushes → Option Extent → OptionWords
options_with p any added meant = record { settings = settings_named p any added meant; unnamed = unnamed_in p added meant }

-- the options that are asked for, with that bound for `any`
unfoldable pub AreOptionsWith : ℕ → Parsed → OptionWords → Type 0
AreOptionsWith any p w = (added : Option Flushes) × (meant : Option Extent) × AreFlushes (word_bytes p.flush) added
    × IsExtent (word_bytes p.images) p.wide meant × (w ≡ options_with p any added meant)

-- the same where `any` is no bound: the number that stands for it is too great
abbrev pub AreOptions : Parsed → OptionWords → Type 0
AreOptions = AreOptionsWith 18446744073709551615

-- any number of losses is asked for, or a word stands there that is about them
abbrev pub asks_losses : Parsed → Bool
asks_losses p = p.any || is_some p.torn || is_some p.at_most

-- what is asked of any number of losses, and what is to be told of the failing cases
abbrev pub losses_named : Parsed → CaseTelling → LossWords
losses_named p telling = record { any = p.any; torn = p.torn; at_most = p.at_most; telling = telling }

-- what is asked of a search by records, and what is to be told of what it finds
abbrev pub recorded : Parsed → KnownTelling → KnownWords
recorded p told = record { losses = losses_named p telling.Cases; at_failing = p.at_failing; cases = p.cases; telling = told }

-- what `explore` asks for, with these options
abbrev pub explored : Parsed → OptionWords → Request
explored p options = if is_some p.known then asks.Known options (recorded p known.Cases) else if asks_losses p then asks.Cases options (losses_named p telling.Cases) else asks.Explore options

-- what it asks for with --inputs, which asks for a number of losses, and without
abbrev pub AsksReport : Parsed → Bool → Request → Type 0
AsksReport p true r = (options : OptionWords) × AreOptions p options × (r ≡ asks.Marked options)
AsksReport p false r = (options : OptionWords) × AreOptionsWith 0 p options × (r ≡ explored p options)

-- what `export` asks for, with --known and without
abbrev pub AsksExport : Parsed → Bool → Request → Type 0
AsksExport p true r = (options : OptionWords) × AreOptionsWith 0 p options × (r ≡ asks.Known options (recorded p known.Wanted))
AsksExport p false r = (options : OptionWords) × AreOptions p options × (r ≡ asks.Export options)

-- what `why` asks for, with these options, of programs
abbrev pub explained : Parsed → OptionWords → Request
explained p options = if asks_losses p then asks.Cases options (losses_named p telling.Causes) else asks.Why options

-- what `images` asks for, with these options
abbrev pub counted : Parsed → OptionWords → Request
counted p options = if asks_losses p then asks.Cuts options (losses_named p telling.Cases) p.parts else asks.Images options p.parts

-- what `cure` asks for, with these options, of programs
abbrev pub cured : Parsed → OptionWords → Request
cured p options = if asks_losses p then asks.CureCases options (losses_named p telling.Cases) else asks.Cure options

-- what `page` asks for, with these options, of programs
abbrev pub paged : Parsed → OptionWords → Request
paged p options = if asks_losses p then asks.Cases options (losses_named p telling.Page) else asks.Page options

-- what a command asks for that takes a report in place of programs, with --report or without: what is told of the report, and what is asked
-- of programs
abbrev pub AsksTold : Parsed → Retelling → (OptionWords → Request) → Bool → Request → Type 0
AsksTold p told of_programs true r = (options : OptionWords) × AreOptions p options × (r ≡ asks.Retold options told)
AsksTold p told of_programs false r = (options : OptionWords) × AreOptionsWith 0 p options × (r ≡ of_programs options)

-- the text of a choice, kept if it has at most 96 bytes
abbrev pub choice_named : Parsed → List ℕ
choice_named p = unwrap_or (word_bytes p.choice) []

-- which image is meant: with --cut that of this cut and of the choice, else that of the number
abbrev pub IsWhich : Parsed → Which → Type 0
IsWhich p (which.Number number) = (p.cut ≡ None) × (number ≡ unwrap_or p.number 0)
IsWhich p (which.Printed cut choice) = (p.cut ≡ Some cut) × MatchOption choice (96 < length (choice_named p)) (λ text. text.bytes ≡ choice_named p)

-- what `image` asks for with a bound, or `show`, which tells the image in words
abbrev pub AsksBounded : Parsed → Bool → Request → Type 0
AsksBounded p in_words r = (options : OptionWords) × (meant : Which) × AreOptions p options × IsWhich p meant
    × (r ≡ (if in_words then asks.Show options meant else asks.Image options meant))

-- the same with --cut or without, and with `any` after --bound or without: with both any number of parts may be lost
abbrev pub AsksAny : Parsed → Bool → Option ℕ → Bool → Request → Type 0
AsksAny p in_words (Some cut) true r = (options : OptionWords) × AreOptionsWith 0 p options × (r ≡ asks.AnyImage options cut in_words)
AsksAny p in_words (Some cut) false r = AsksBounded p in_words r
AsksAny p in_words None any r = AsksBounded p in_words r

abbrev pub AsksImage : Parsed → Bool → Request → Type 0
AsksImage p in_words r = AsksAny p in_words p.cut p.any r

-- what is asked of a run on one image, each number that isn't written by its default
abbrev pub trial_asked : Parsed → TrialWords
trial_asked p = record { limits = limits_named p.large; epoch = unwrap_or p.epoch 0; marks = unwrap_or p.marks 0; checked = p.checked; guards = p.guards; trace = unwrap_or p.trace 0 }

-- what a command asks for: its options, and the image that it means
abbrev pub Asks : Parsed → Option Verb → Request → Type 0
Asks p (Some verb.Explore) r = AsksReport p p.inputs r
Asks p (Some verb.Why) r = AsksTold p retelling.Causes (explained p) (is_some p.report) r
Asks p (Some verb.Cure) r = AsksTold p retelling.Places (cured p) (is_some p.report) r
Asks p (Some verb.Page) r = AsksTold p retelling.Page (paged p) (is_some p.report) r
Asks p (Some verb.Images) r = (options : OptionWords) × AreOptionsWith 0 p options × (r ≡ counted p options)
Asks p (Some verb.Export) r = AsksExport p (is_some p.known) r
Asks p (Some verb.Image) r = AsksImage p false r
Asks p (Some verb.Show) r = AsksImage p true r
Asks p (Some verb.Log) r = (options : OptionWords) × AreOptions p options × (r ≡ asks.Log options)
Asks p (Some verb.Verify) r = (options : OptionWords) × AreOptions p options × (r ≡ asks.Verify options p.list)
Asks p (Some verb.Import) r = r ≡ asks.Import (limits_named p.large)
Asks p (Some verb.Check) r = r ≡ asks.Check (trial_asked p)
Asks p (Some verb.Asm) r = r ≡ asks.Asm
Asks p (Some verb.List) r = r ≡ asks.List p.slots
Asks p (Some verb.Join) r = r ≡ asks.Join p.part
Asks p None r = r ≡ asks.StoredRun

-- the files that are named: a log, a source text or a program, then the image of a program and its lines of C, then the programs of a
-- run, or a report or records in their place, or the texts of parts
abbrev pub first_file : Option (List ℕ) → List (List ℕ)
first_file None = []
first_file (Some file) = file ∷ []

abbrev pub program_files : Option (Bor (List (Bor (List ℕ)))) → List (List ℕ)
program_files None = []
program_files (Some programs) = map (λ w. w.now) programs.now

abbrev pub files_named : Parsed → List (List ℕ)
files_named p = first_file (word_bytes p.file) ++ first_file (word_bytes p.image) ++ first_file (word_bytes p.lines) ++ program_files p.programs ++ first_file (word_bytes p.report) ++ first_file (word_bytes p.known) ++ program_files p.texts

-- the number that the text after an option is
pub record IsWritten (found : Found) (option : List ℕ) (number : ℕ) : Type 0 where
  pub text : List ℕ
  pub there : first_value found option ≡ Some text
  pub is : IsNumber 64 text number

-- the number after an option: none where nothing stands there, and else the one that the text there is
abbrev pub IsNumberOf : Found → List ℕ → Option ℕ → Type 0
IsNumberOf found option number = MatchOption number (first_value found option ≡ None) (IsWritten found option)

-- the number after --bound: none where `any` stands there
abbrev pub IsBoundOf : Found → Bool → Option ℕ → Type 0
IsBoundOf found true number = number ≡ None
IsBoundOf found false number = IsNumberOf found (codes "bound") number

-- the number after --sectors: none where `base` stands there
abbrev pub IsSizeOf : Found → Bool → Option ℕ → Type 0
IsSizeOf found true number = number ≡ None
IsSizeOf found false number = IsNumberOf found (codes "sectors") number

-- whether a flag was found
pub record IsFlagOf (found : Found) (option : List ℕ) (flag : Bool) : Type 0 where
  pub absent : one_text found option ≡ None → flag ≡ false
  pub given : one_text found option ≡ Some (codes "true") → flag ≡ true
  pub denied : one_text found option ≡ Some (codes "false") → flag ≡ false

-- what was read is what `clap` found, each word and option under its own name
pub record IsRead (found : Found) (p : Parsed) : Type 0 where
  pub file : word_bytes p.file ≡ first_value found (codes "file")
  pub image : word_bytes p.image ≡ first_value found (codes "image")
  pub lines : word_bytes p.lines ≡ first_value found (codes "lines")
  pub programs : option_map (λ ws. map (λ w. w.now) ws.now) p.programs ≡ option_map raw_values (matched_of found (codes "programs"))
  pub report : word_bytes p.report ≡ first_value found (codes "report")
  pub known : word_bytes p.known ≡ first_value found (codes "known")
  pub sized : p.is_sized ≡ base_named (first_value found (codes "sectors"))
  pub sectors : IsSizeOf found p.is_sized p.sectors
  pub large : IsFlagOf found (codes "large") p.large
  pub flush : word_bytes p.flush ≡ first_value found (codes "flush")
  pub base : word_bytes p.base ≡ first_value found (codes "base")
  pub cuts : word_bytes p.cuts ≡ first_value found (codes "cuts")
  pub from : IsNumberOf found (codes "from") p.from
  pub to : IsNumberOf found (codes "to") p.to
  pub any : p.any ≡ any_named (first_value found (codes "bound"))
  pub bound : IsBoundOf found p.any p.bound
  pub tears : IsFlagOf found (codes "tears") p.tears
  pub torn : IsNumberOf found (codes "torn") p.torn
  pub at_most : IsNumberOf found (codes "at-most") p.at_most
  pub at_failing : IsFlagOf found (codes "stop-at-failing") p.at_failing
  pub cases : IsNumberOf found (codes "cases") p.cases
  pub parts : word_bytes p.by ≡ first_value found (codes "by")
  pub workers : IsNumberOf found (codes "workers") p.workers
  pub cache : IsNumberOf found (codes "cache") p.cache
  pub checked : IsNumberOf found (codes "checked") p.checked
  pub guards : IsFlagOf found (codes "guards") p.guards
  pub first : IsFlagOf found (codes "first") p.first
  pub inputs : IsFlagOf found (codes "inputs") p.inputs
  pub progress : IsFlagOf found (codes "progress") p.progress
  pub number : IsNumberOf found (codes "number") p.number
  pub cut : IsNumberOf found (codes "cut") p.cut
  pub choice : word_bytes p.choice ≡ first_value found (codes "choice")
  pub slots : IsFlagOf found (codes "slots") p.slots
  pub listed : IsFlagOf found (codes "list") p.list
  pub epoch : IsNumberOf found (codes "epoch") p.epoch
  pub marks : IsNumberOf found (codes "marks") p.marks
  pub trace : IsNumberOf found (codes "trace") p.trace
  pub images : word_bytes p.images ≡ first_value found (codes "images")
  pub wide : IsFlagOf found (codes "wide") p.wide
  pub parts_number : IsNumberOf found (codes "parts") p.parts
  pub part : IsFlagOf found (codes "part") p.part
  pub texts : option_map (λ ws. map (λ w. w.now) ws.now) p.texts ≡ option_map raw_values (matched_of found (codes "texts"))
