-- The leaves of which a judge that has records was told: those that are told, and those that are open.
use Rattle.std.specs.Prelude.{ℕ, ◌≡◌, ◌==◌, nat_le, Bool, false, not, ◌&&◌, ◌||◌, List, length, map, filter, slice_get, Option}
use Rattle.std.specs.List.{list_any}
use Rattle.std.specs.Option.{option_map_or}
use Rattle.machine.specs.Outcome.{fails}
use Rattle.cases.specs.Search.{LeafValue}
use Rattle.losses.specs.FoundCases.{FailingValue}
use Rattle.case_runs.specs.Leaves.{failing_from}
use Rattle.known.specs.declared.run.KnownRun.{KnownRun}
use Rattle.known.specs.declared.found.KnownFailing.{KnownFailing}
use Rattle.known.specs.declared.found.OpenCase.{OpenCase}
use Rattle.known.specs.declared.found.KnownAt.{KnownAt}
use Rattle.known.specs.declared.found.Stops.{Stops}
use Rattle.known.specs.declared.leaves.MetLeaf.{MetLeaf}
use Rattle.known.specs.Ends.{ending_of, is_open}
use Rattle.known.specs.Records.{RecordsValue, told_ending}

-- a leaf that a record tells, and one that none does
abbrev pub is_told : LeafValue → Bool
is_told leaf = not (is_open leaf.ending)

abbrev pub told_of : List LeafValue → List LeafValue
told_of leaves = filter is_told leaves

abbrev pub open_of : List LeafValue → List LeafValue
open_of leaves = filter (λ (leaf : LeafValue). is_open leaf.ending) leaves

-- a told leaf that fails
abbrev pub is_told_failing : LeafValue → Bool
is_told_failing leaf = is_told leaf && fails leaf.ending

-- the search of a cut ends after these leaves: after the first told one that fails, or when there are as many as asked
abbrev pub has_stopped : Stops → List LeafValue → Bool
has_stopped stops leaves = (stops.at_failing && list_any is_told_failing leaves) || option_map_or (λ n. nat_le n (length leaves)) stops.cases false

-- a told leaf that fails, with its number among the told ones
abbrev pub failing_value : KnownFailing → FailingValue
failing_value f = record { number = f.number; ending = ending_of f.end; sets = f.sets.items }

abbrev pub open_sets : OpenCase → List ℕ
open_sets o = o.sets.items

abbrev pub sets_of_leaf : LeafValue → List ℕ
sets_of_leaf leaf = leaf.sets

-- a leaf that a record tells, or none
abbrev pub leaf_by : List ℕ → Option KnownRun → LeafValue
leaf_by sets run = record { sets = sets; ending = told_ending run }

-- a leaf as it was met
abbrev pub leaf_of : List KnownRun → MetLeaf → LeafValue
leaf_of runs m = leaf_by m.sets.value.items (slice_get runs m.place.value)

-- what is kept of some leaves
pub record AreMet (leaves : List LeafValue) (failing : List KnownFailing) (those : List OpenCase) : Type 0 where
  pub are_failing : map failing_value failing ≡ failing_from 0 (told_of leaves)
  pub are_open : map open_sets those ≡ map sets_of_leaf (open_of leaves)

-- a judge: records, how many marks were passed, the record that told its last image, the leaves that it was told of, and those of them
-- that fail
pub record JudgeValue : Type 0 where
  pub records : RecordsValue
  pub marks : ℕ
  pub last : Option KnownRun
  pub leaves : List LeafValue
  pub failing : List FailingValue

-- nothing is open, left out or pending at a cut
abbrev pub is_complete : KnownAt → Bool
is_complete found = (length found.open_cases.items == 0) && (not found.stopped && ((found.torn_beyond == 0) && (found.lost_beyond == 0)))
