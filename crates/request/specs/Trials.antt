-- What is asked of a run of a program on one image, and which words are refused (docs/COMMANDS.md, Options).
use Rattle.std.specs.Prelude.{◌≡◌, nat_le, true, List, [], ◌∷◌, Option, None}
use Rattle.std.specs.Option.{option_map, option_map_or}
use Rattle.base.specs.Check.{Check, check, first_failing}
use Rattle.base.specs.declared.refusal.Refusal.{Refusal}
use Rattle.request.specs.declared.settings.OptionPlace.{OptionPlace}
use Rattle.request.specs.declared.settings.OptionPlace.TheVariants as place
use Rattle.request.specs.declared.trials.TrialWords.{TrialWords}
use Rattle.request.specs.declared.trials.Trial.{Trial}
use Rattle.request.specs.Settings.{is_one_kind, option_refusal}

-- the checks of the words, each with its place; no log has more flush entries or marks than entries
unfoldable pub trial_checks : TrialWords → List (Check OptionPlace)
trial_checks w =
    check place.Epoch (nat_le w.epoch 65536)
    ∷ check place.Marks (nat_le w.marks 65536)
    ∷ check place.Checked (option_map_or (λ limit. nat_le limit 1000000000) w.checked true)
    ∷ check place.Guards (is_one_kind w.guards w.checked)
    ∷ []

-- the refusal of the first that a check refuses, if one does
abbrev pub trial_refusal : TrialWords → Option Refusal
trial_refusal w = option_map option_refusal (first_failing (trial_checks w))

-- the words ask for this, and no check refuses them
pub record AskForTrial (w : TrialWords) (t : Trial) : Type 0 where
  pub asked : t ≡ record { limits = w.limits; epoch = w.epoch; marks = w.marks; checked = w.checked; guards = w.guards; trace = w.trace }
  pub good : trial_refusal w ≡ None
