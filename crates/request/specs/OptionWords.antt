-- The options that words ask for, and when the words are refused (docs/COMMANDS.md, Options).
use Rattle.std.specs.Prelude.{◌≡◌, Option, None, Some}
use Rattle.std.specs.Option.{option_map_or}
use Rattle.base.specs.declared.refusal.Refusal.{Refusal}
use Rattle.request.specs.declared.command.OptionWords.{OptionWords}
use Rattle.request.specs.declared.settings.Settings.{Settings}
use Rattle.request.specs.Settings.{option_refusal, settings_refusal}

-- the refusal of the words of a command line: the first that names nothing, and then what they ask for
abbrev pub words_refusal : OptionWords → Option Refusal
words_refusal w = option_map_or (λ at. Some (option_refusal at)) w.unnamed (settings_refusal w.settings)

-- the words ask for this: each names something, and no check of the options refuses it
pub record AskFor (w : OptionWords) (s : Settings) : Type 0 where
  pub asked : w.settings ≡ s
  pub named : w.unnamed ≡ None
  pub good : settings_refusal s ≡ None
