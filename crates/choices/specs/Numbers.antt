-- The departures of a choice as single numbers, which rise in the order of departures at their cut.
use Rattle.std.specs.Prelude.{ℕ, ◌+◌, ◌*◌, Bool, List, length, map, Option, slice_get}
use Rattle.std.specs.Option.{option_map}
use Rattle.epochs.specs.Parts.{volatile_parts}
use Rattle.epochs.specs.Plan.{PlanValue}
use Rattle.choices.specs.declared.pick.Pick.{Pick}
use Rattle.choices.specs.Picks.{fates_of, picks_within}

-- first by part, and then by fate: there are at most 15 fates
abbrev pub number_of : Pick → ℕ
number_of pick = 15 * pick.part + pick.fate

abbrev pub numbers_of : List Pick → List ℕ
numbers_of picks = map number_of picks

-- the departures of a choice at a cut of a plan, by its number among those there
unfoldable pub numbers_at : PlanValue → ℕ → Bool → ℕ → ℕ → Option (List ℕ)
numbers_at plan bound tears cut rest =
    option_map numbers_of (slice_get (picks_within (fates_of tears) bound (length (volatile_parts plan.by plan.log.entries cut))) rest)
