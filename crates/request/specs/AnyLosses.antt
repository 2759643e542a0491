-- What is asked of any number of losses, and which words are refused (docs/COMMANDS.md, Options).
use Rattle.std.specs.Prelude.{ℕ, Bool, true, ◌&&◌, ◌||◌, ◌==◌, not, nat_le, if◌then◌else◌, List, [], ◌∷◌, Option, is_some, unwrap_or}
use Rattle.std.specs.Option.{option_map, option_map_or}
use Rattle.base.specs.Check.{Check, check, first_failing}
use Rattle.base.specs.declared.refusal.Refusal.{Refusal}
use Rattle.request.specs.declared.any_losses.AnyLosses.{AnyLosses}
use Rattle.request.specs.declared.any_losses.LossWords.{LossWords}
use Rattle.request.specs.declared.settings.OptionPlace.{OptionPlace}
use Rattle.request.specs.declared.settings.OptionPlace.TheVariants as place
use Rattle.request.specs.declared.settings.Settings.{Settings}
use Rattle.request.specs.Extents.{is_whole}
use Rattle.request.specs.Settings.{option_refusal}

-- the number after --torn, where it stands there, is 1 to 3, beside --tears
abbrev pub is_torn_asked : Option ℕ → Bool → Bool
is_torn_asked number tears = option_map_or (λ torn. tears && nat_le 1 torn && nat_le torn 3) number true

-- the number after --at-most, where it stands there, is 1 to 64
abbrev pub is_lost_asked : Option ℕ → Bool
is_lost_asked number = option_map_or (λ most. nat_le 1 most && nat_le most 64) number true

-- the checks of the words, beside options that are good, each with its place: without `any` each of the two is refused
unfoldable pub loss_checks : LossWords → Settings → List (Check OptionPlace)
loss_checks w s =
    check place.Torn (w.any || not (is_some w.torn))
    ∷ check place.AtMost w.any
    ∷ check place.Torn (is_torn_asked w.torn s.tears)
    ∷ check place.AtMost (is_lost_asked w.at_most)
    ∷ check place.Cache (s.cache == 0)
    ∷ check place.Images (is_whole s.extent)
    ∷ []

-- the refusal of the first that a check refuses, if one does
abbrev pub losses_refusal : LossWords → Settings → Option Refusal
losses_refusal w s = option_map option_refusal (first_failing (loss_checks w s))

-- how many parts may be torn: none without tears, and 1 without a number
abbrev pub torn_asked : Option ℕ → Bool → ℕ
torn_asked number tears = if tears then unwrap_or number 1 else 0

-- what the words ask for, beside these options
abbrev pub losses_asked : LossWords → Settings → AnyLosses
losses_asked w s = record { torn = torn_asked w.torn s.tears; at_most = w.at_most; telling = w.telling }
