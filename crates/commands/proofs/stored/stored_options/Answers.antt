use Rattle.std.proofs.Common.{ℕ, ◌≡◌, ◌≤◌, ◌∙◌, arith, replicate}
use native.Mathlib.Bridge.{le_prop}
use Rattle.request.specs.declared.settings.Settings.{Settings}
use Rattle.commands.specs.Stored.{stored_settings}
use Rattle.commands.proofs.stored.stored_options.Goals as goal

-- the settings of the stored run, whichever proof says that few flushes are added
abbrev settings_by : 0 ≤ 64 → Settings
settings_by few = record stored_settings { cuts = record stored_settings.cuts { flushes = record { entries = replicate {A = ℕ} 64 0; count = 0; few = few } } }

same_settings : (few : 0 ≤ 64) → settings_by few ≡ stored_settings
same_settings few = λ i. settings_by (le_prop few (omega arith) i)

same_options : (o : Settings) (few : 0 ≤ 64) → o ≡ settings_by few → o ≡ stored_settings
same_options o few made = made ∙ same_settings few

pub returns : goal.returns
returns c = same_options c.in-Ok.options _ c.in-Ok.ensures.made
