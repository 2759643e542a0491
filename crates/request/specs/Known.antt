-- What is asked of a search by records of a program, and which words are refused (docs/COMMANDS.md, Options).
use Rattle.std.specs.Prelude.{ℕ, Bool, true, ◌&&◌, nat_le, if◌then◌else◌, Option, None, Some}
use Rattle.std.specs.Option.{option_map_or, option_or}
use Rattle.base.specs.declared.refusal.Refusal.{Refusal}
use Rattle.request.specs.declared.known.KnownSearch.{KnownSearch}
use Rattle.request.specs.declared.known.KnownWords.{KnownWords}
use Rattle.request.specs.declared.settings.OptionPlace.{OptionPlace}
use Rattle.request.specs.declared.settings.OptionPlace.TheVariants as place
use Rattle.request.specs.declared.settings.Settings.{Settings}
use Rattle.request.specs.AnyLosses.{losses_asked, losses_refusal}
use Rattle.request.specs.Settings.{option_refusal}

-- the number after --cases, where it stands there, is 1 to 16,777,216
abbrev pub is_count_asked : Option ℕ → Bool
is_count_asked number = option_map_or (λ most. nat_le 1 most && nat_le most 16777216) number true

-- the refusal of the option at a place, where a test of it fails
abbrev pub refused_unless : Bool → OptionPlace → Option Refusal
refused_unless passes at = if passes then None else Some (option_refusal at)

-- the first refusal: for want of `any`, of what is asked of losses, or of the number after --cases
abbrev pub known_refusal : KnownWords → Settings → Option Refusal
known_refusal w s = option_or (refused_unless w.losses.any place.Known) (option_or (losses_refusal w.losses s) (refused_unless (is_count_asked w.cases) place.Cases))

-- what the words ask for, beside these options
abbrev pub known_asked : KnownWords → Settings → KnownSearch
known_asked w s = record { losses = losses_asked w.losses s; at_failing = w.at_failing; cases = w.cases }
