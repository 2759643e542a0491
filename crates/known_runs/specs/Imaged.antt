-- The image of a case's representative, by its cut and its departures.
use Rattle.std.specs.Prelude.{ℕ, ◌≡◌, ◌<◌, ◌≤◌, Bool, List, length, slice_get, slice_index_or}
use Rattle.std.specs.Option.{option_map_or}
use Rattle.logfmt.specs.Bounds.{LogValue, IsLog}
use Rattle.choices.specs.declared.choice.Departure.{Departure}
use Rattle.cases.specs.AtCut.{CutValue, parts_of, case_of}
use Rattle.cases.specs.Cases.{representative}
use Rattle.cases.specs.Choices.{departures, all_fates}
use Rattle.cases.specs.Sets.{fates_in}
use Rattle.images.specs.Table.{AreParts}
use Rattle.images.specs.Views.{ViewValue}

-- what the representative of a case loses and tears
abbrev pub lost_in : CutValue → Bool → List ℕ → List Departure
lost_in at tears sets = departures (representative (case_of tears (parts_of at) sets)) (parts_of at)

abbrev pub view_of_case : CutValue → Bool → List ℕ → ViewValue
view_of_case at tears sets = record { log = at.log; cut = at.cut; departures = lost_in at tears sets }

-- what is kept of an image
pub record IsImage (log : LogValue) (at : CutValue) (tears : Bool) (sets : List ℕ) (ds : List Departure) : Type 0 where
  pub of_log : log ≡ at.log
  pub bounds : IsLog at.log
  pub within : at.cut ≤ length at.log.entries
  pub each : length sets ≡ length (parts_of at)
  pub lost : ds ≡ lost_in at tears sets
  pub parts : AreParts at.log ds

-- a set for each part has the fates that a case leaves it
pub record AreFull (tears : Bool) (sets full : List ℕ) : Type 0 where
  pub each : (n : ℕ) → n < length full → fates_in (slice_index_or full n 0) ≡ option_map_or fates_in (slice_get sets n) (all_fates tears)
