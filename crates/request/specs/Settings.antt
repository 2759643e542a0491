-- The options of a run, and which are refused (docs/COMMANDS.md, Options).
use Rattle.std.specs.Prelude.{ℕ, ◌≡◌, ◌≤◌, Bool, true, false, ◌&&◌, not, nat_le, List, [], ◌∷◌, Option, None, is_some}
use Rattle.std.specs.Option.{option_map, option_map_or}
use Rattle.base.specs.Check.{Check, check, first_failing}
use Rattle.base.specs.Sizes.{most_sectors, sector_limit}
use Rattle.base.specs.declared.causes.RequestCause.TheVariants as request
use Rattle.base.specs.declared.limits.Limits.TheVariants as limits
use Rattle.base.specs.declared.refusal.Refusal.{Refusal}
use Rattle.base.specs.declared.refusal.Cause.TheVariants.{Request}
use Rattle.epochs.specs.declared.cuts.Cuts.{Cuts}
use Rattle.epochs.specs.declared.part.By.TheVariants as by
use Rattle.epochs.specs.Cuts.{all_cuts, is_before_last}
use Rattle.request.specs.declared.extent.Extent.TheVariants as extent
use Rattle.request.specs.declared.settings.Settings.{Settings}
use Rattle.request.specs.declared.settings.OptionPlace.{OptionPlace}
use Rattle.request.specs.declared.settings.OptionPlace.TheVariants as place
use Rattle.request.specs.Places.{place_number}
use Rattle.request.specs.Extents.{is_extent}

-- what a run is asked on a device of 16,384 sectors where nothing else is written
abbrev pub usual_settings : Settings
usual_settings = record {
  sectors = 16384;
  limits = limits.Usual;
  cuts = all_cuts;
  bound = 1;
  tears = false;
  by = by.Sector;
  workers = 1;
  cache = 0;
  checked = None;
  guards = false;
  first = false;
  extent = extent.Whole;
}

-- the refusal of the option at that place
abbrev pub option_refusal : OptionPlace → Refusal
option_refusal at = record { code = Request request.Option; at = place_number at; program = None }

-- where the first and the last cut are both given, the first isn't after the last
abbrev pub is_ordered : Cuts → Bool
is_ordered cuts = option_map_or (λ first. is_before_last cuts.to first) cuts.from true

-- programs are accepted in one way: guards don't go with a limit of steps, with which no verifier is asked
abbrev pub is_one_kind : Bool → Option ℕ → Bool
is_one_kind guards checked = not (guards && is_some checked)

-- the checks of the options, each with its place
unfoldable pub option_checks : Settings → List (Check OptionPlace)
option_checks s =
    check place.Sectors (nat_le 1 s.sectors && nat_le s.sectors (sector_limit s.limits))
    ∷ check place.Bound (nat_le s.bound 3)
    ∷ check place.Workers (nat_le 1 s.workers && nat_le s.workers 64)
    ∷ check place.Cache (nat_le s.cache 65536)
    ∷ check place.Checked (option_map_or (λ limit. nat_le limit 1000000000) s.checked true)
    ∷ check place.Range (is_ordered s.cuts)
    ∷ check place.Images (is_extent s.extent)
    ∷ check place.Guards (is_one_kind s.guards s.checked)
    ∷ []

-- the refusal of the first option that a check refuses, if one does
abbrev pub settings_refusal : Settings → Option Refusal
settings_refusal s = option_map option_refusal (first_failing (option_checks s))

-- options that no check refuses
pub record IsAsked (s : Settings) : Type 0 where
  pub some : 1 ≤ s.sectors
  pub device : s.sectors ≤ most_sectors
  pub bound : s.bound ≤ 3
  pub some_worker : 1 ≤ s.workers
  pub few_workers : s.workers ≤ 64
  pub cache : s.cache ≤ 65536
  pub extent : is_extent s.extent ≡ true
  pub one_kind : is_one_kind s.guards s.checked ≡ true
  pub passed : first_failing (option_checks s) ≡ None
