-- How the entries of a cut are kept.
use Rattle.std.specs.Prelude.{ℕ, ◌≡◌, ◌-◌, ◌≤◌, ◌++◌, Bool, IsTrue, List, length, take, drop, Some, slice_get}
use Rattle.epochs.specs.Plan.{PlanValue}
use Rattle.epochs.specs.Touching.{touching}
use Rattle.helpers.specs.Footprint.{FootprintValue}
use Rattle.interp.specs.Ending.{ending_of}
use Rattle.workers.specs.declared.entries.FootprintEntry.{FootprintEntry}
use Rattle.workers.specs.Reuse.{EntryValue, Rises, told_or}

-- the numbers of a list from one place to before another
abbrev pub between : List ℕ → ℕ → ℕ → List ℕ
between numbers first end = take (end - first) (drop first numbers)

-- an entry, whose parts stand in the list of all parts
abbrev pub entry_value : List ℕ → FootprintEntry → EntryValue
entry_value parts e = record { picks = e.choice.picks; ending = ending_of e.outcome; told = told_or e.all (between parts e.first e.end) }

-- they do, rising
pub record Stands (parts : List ℕ) (e : FootprintEntry) : Type 0 where
  pub low : e.first ≤ e.end
  pub high : e.end ≤ length parts
  pub rising : Rises (between parts e.first e.end)

-- at most 1,024 entries, whose parts stand in the list, and an index of 4,096 places
pub record AreKept (entries : List FootprintEntry) (parts index : List ℕ) : Type 0 where
  pub few : length entries ≤ 1024
  pub stand : (i : ℕ) (e : FootprintEntry) → slice_get entries i ≡ Some e → Stands parts e
  pub places : length index ≡ 4096

-- parts are added to a list, rising; where it says so, those that cover a sector of a footprint
pub record AddsTold (old new : List ℕ) (plan : PlanValue) (cut : ℕ) (footprint : FootprintValue) (told : Bool) : Type 0 where
  pub more : List ℕ
  pub grows : new ≡ old ++ more
  pub rising : Rises more
  pub cover : IsTrue told → (sectors : List ℕ) × (footprint.sectors ≡ Some sectors) × (more ≡ touching plan.by plan.log.entries cut sectors)
