-- What the words of the command line ask for (docs/COMMANDS.md, Commands).
use Rattle.std.specs.Prelude.{ℕ, ◌≡◌, ◌⊎◌, Bool, false, if◌then◌else◌, List, [], Option, None, Some, option_map}
use Rattle.base.specs.declared.limits.Limits.{Limits}
use Rattle.base.specs.declared.limits.Limits.TheVariants as limits
use Rattle.clap.specs.Words.{app_of, found_of, subcommand_name_of, subcommand_rows_of, HasMatchesOf}
use Rattle.clap.specs.Walk.{rows_of}
use Rattle.clap.specs.declared.builder.command.Command.{Command}
use Rattle.clap.specs.declared.parser.matches.ArgMatches.{ArgMatches}
use Rattle.request.specs.declared.command.OptionWords.{OptionWords}
use Rattle.request.specs.declared.command.Request.{Request}
use Rattle.request.specs.declared.command.Request.TheVariants as asks
use Rattle.command_line.specs.declared.parsed.Parsed.{Parsed}
use Rattle.command_line.specs.Parsed.{Asks, choice_named, command_named, files_named, word_bytes, IsRead}

-- the request, the names of its files in order and of that after --base, the text after --choice, whether it is to be said how far an
-- exploration is, and whether the device has the size of what the file after --base holds
pub record WordsValue : Type 0 where
  pub request : Request
  pub files : List (List ℕ)
  pub base : Option (List ℕ)
  pub choice : List ℕ
  pub progress : Bool
  pub is_sized : Bool

-- the number of sectors of the device that is asked for; 0 where the command takes none
abbrev pub sectors_asked : Request → ℕ
sectors_asked asks.StoredRun = 0
sectors_asked (asks.Explore w) = w.settings.sectors
sectors_asked (asks.Marked w) = w.settings.sectors
sectors_asked (asks.Cases w losses) = w.settings.sectors
sectors_asked (asks.Why w) = w.settings.sectors
sectors_asked (asks.Cure w) = w.settings.sectors
sectors_asked (asks.CureCases w losses) = w.settings.sectors
sectors_asked (asks.Page w) = w.settings.sectors
sectors_asked (asks.Retold w telling) = w.settings.sectors
sectors_asked (asks.Known w known) = w.settings.sectors
sectors_asked (asks.Images w parts) = w.settings.sectors
sectors_asked (asks.Cuts w losses parts) = w.settings.sectors
sectors_asked (asks.Export w) = w.settings.sectors
sectors_asked (asks.Log w) = w.settings.sectors
sectors_asked (asks.Image w which) = w.settings.sectors
sectors_asked (asks.Show w which) = w.settings.sectors
sectors_asked (asks.AnyImage w cut in_words) = w.settings.sectors
sectors_asked (asks.Verify w listed) = w.settings.sectors
sectors_asked (asks.Import limits) = 0
sectors_asked (asks.Check w) = 0
sectors_asked asks.Asm = 0
sectors_asked (asks.List numbered) = 0
sectors_asked (asks.Join part) = 0

-- how large the log and its device may be that a command asks for
abbrev pub limits_asked : Request → Limits
limits_asked asks.StoredRun = limits.Usual
limits_asked (asks.Explore w) = w.settings.limits
limits_asked (asks.Marked w) = w.settings.limits
limits_asked (asks.Cases w losses) = w.settings.limits
limits_asked (asks.Why w) = w.settings.limits
limits_asked (asks.Cure w) = w.settings.limits
limits_asked (asks.CureCases w losses) = w.settings.limits
limits_asked (asks.Page w) = w.settings.limits
limits_asked (asks.Retold w telling) = w.settings.limits
limits_asked (asks.Known w known) = w.settings.limits
limits_asked (asks.Images w parts) = w.settings.limits
limits_asked (asks.Cuts w losses parts) = w.settings.limits
limits_asked (asks.Export w) = w.settings.limits
limits_asked (asks.Log w) = w.settings.limits
limits_asked (asks.Image w which) = w.settings.limits
limits_asked (asks.Show w which) = w.settings.limits
limits_asked (asks.AnyImage w cut in_words) = w.settings.limits
limits_asked (asks.Verify w listed) = w.settings.limits
limits_asked (asks.Import large) = large
limits_asked (asks.Check w) = w.limits
limits_asked asks.Asm = limits.Usual
limits_asked (asks.List numbered) = limits.Usual
limits_asked (asks.Join part) = limits.Usual

-- the options on a device of that many sectors
abbrev pub options_on : OptionWords → ℕ → OptionWords
options_on w n = record w { settings = record w.settings { sectors = n } }

-- what is asked for on a device of that many sectors
abbrev pub request_on : Request → ℕ → Request
request_on asks.StoredRun n = asks.StoredRun
request_on (asks.Explore w) n = asks.Explore (options_on w n)
request_on (asks.Marked w) n = asks.Marked (options_on w n)
request_on (asks.Cases w losses) n = asks.Cases (options_on w n) losses
request_on (asks.Why w) n = asks.Why (options_on w n)
request_on (asks.Cure w) n = asks.Cure (options_on w n)
request_on (asks.CureCases w losses) n = asks.CureCases (options_on w n) losses
request_on (asks.Page w) n = asks.Page (options_on w n)
request_on (asks.Retold w telling) n = asks.Retold (options_on w n) telling
request_on (asks.Known w known) n = asks.Known (options_on w n) known
request_on (asks.Images w parts) n = asks.Images (options_on w n) parts
request_on (asks.Cuts w losses parts) n = asks.Cuts (options_on w n) losses parts
request_on (asks.Export w) n = asks.Export (options_on w n)
request_on (asks.Log w) n = asks.Log (options_on w n)
request_on (asks.Image w which) n = asks.Image (options_on w n) which
request_on (asks.Show w which) n = asks.Show (options_on w n) which
request_on (asks.AnyImage w cut in_words) n = asks.AnyImage (options_on w n) cut in_words
request_on (asks.Verify w listed) n = asks.Verify (options_on w n) listed
request_on (asks.Import limits) n = asks.Import limits
request_on (asks.Check w) n = asks.Check w
request_on asks.Asm n = asks.Asm
request_on (asks.List numbered) n = asks.List numbered
request_on (asks.Join part) n = asks.Join part

-- what the words ask for where a device has that size by what it held before, none where that isn't known
abbrev pub sized_by : WordsValue → Option ℕ → WordsValue
sized_by w None = w
sized_by w (Some n) = if w.is_sized then record { request = request_on w.request n; files = w.files; base = w.base; choice = w.choice; progress = w.progress; is_sized = w.is_sized } else w

-- without a command the stored run is asked for
abbrev pub stored_run : WordsValue
stored_run = record { request = asks.StoredRun; files = []; base = None; choice = []; progress = false; is_sized = false }

-- what was read of the words asks for this
pub record AreAsked (p : Parsed) (w : WordsValue) : Type 0 where
  pub request : Asks p (command_named p.command.now) w.request
  pub files : w.files ≡ files_named p
  pub base : w.base ≡ word_bytes p.base
  pub choice : w.choice ≡ choice_named p
  pub progress : w.progress ≡ p.progress
  pub sized : w.is_sized ≡ p.is_sized

-- what `clap` found after the name of a command, each word and option under its own name, asks for this
pub record AreFoundAfter (matches : ArgMatches) (w : WordsValue) : Type 0 where
  pub beyond : ArgMatches
  pub parsed : Parsed
  pub command : subcommand_name_of matches ≡ Some parsed.command.now
  pub rows : option_map (λ row. row.1) (subcommand_rows_of matches) ≡ Some (rows_of (found_of beyond))
  pub read : IsRead (found_of beyond) parsed
  pub asked : AreAsked parsed w

-- what `clap` found asks for this; without a command for the stored run
abbrev pub AreFound : ArgMatches → WordsValue → Type 0
AreFound matches w = AreFoundAfter matches w ⊎ ((subcommand_name_of matches ≡ None) × (w ≡ stored_run))

-- `clap` takes the words by some command, and what it found asks for this
pub record AreTaken (words : List (List ℕ)) (w : WordsValue) : Type 0 where
  pub command : Command
  pub matches : ArgMatches
  pub taken : HasMatchesOf (app_of command) words matches
  pub found : AreFound matches w
