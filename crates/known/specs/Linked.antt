-- How many sectors of a record are on a device, up to the first that isn't, by what is known of the record before it.
use Rattle.std.specs.Prelude.{ℕ, zero, suc, ◌≡◌, ◌==◌, nat_eq, Bool, ◌&&◌, if◌then◌else◌, List, [], ◌∷◌, take, slice_get, Some}
use Rattle.std.specs.Option.{option_map_or}
use Rattle.std.specs.Cmp.Lexicographic.{pointwise}
use Rattle.known.specs.declared.run.KnownRun.{KnownRun}
use Rattle.known.specs.declared.records.Looked.{Looked}
use Rattle.known.specs.declared.records.KeptRun.{KeptRun}
use Rattle.known.specs.Records.{RecordsValue, is_there, sectors_of_run}

-- two kept sectors have one number and the same bytes
abbrev pub same_looked : Looked → Looked → Bool
same_looked one other = (one.number == other.number) && pointwise nat_eq one.bytes other.bytes

-- the sectors of the record before a place, or none
abbrev pub sectors_before : List KeptRun → ℕ → List Looked
sectors_before kept zero = []
sectors_before kept (suc i) = option_map_or (λ (k : KeptRun). k.sectors.items) (slice_get kept i) []

-- each record begins as the one before it, in as many sectors as is kept
pub record AreLinked (kept : List KeptRun) : Type 0 where
  pub each : (i : ℕ) (k : KeptRun) → slice_get kept i ≡ Some k → take k.shared k.sectors.items ≡ take k.shared (sectors_before kept i)

-- how many of some sectors are on a device, up to the first that isn't
abbrev pub count_there : List (List ℕ) → List Looked → ℕ
count_there device [] = 0
count_there device (k ∷ ks) = if is_there device k then suc (count_there device ks) else 0

-- how many of the record at a place are, and of the one before it
abbrev pub there_at : RecordsValue → List (List ℕ) → ℕ → ℕ
there_at v device place = option_map_or (λ (r : KnownRun). count_there device (sectors_of_run v.log v.way r)) (slice_get v.runs place) 0

abbrev pub there_before : RecordsValue → List (List ℕ) → ℕ → ℕ
there_before v device zero = 0
there_before v device (suc i) = there_at v device i
