-- What a worker knows of the images of a cut by the footprints of checkers (docs/MACHINE.md, Footprint).
use Rattle.std.specs.Prelude.{ℕ, ◌≡◌, ◌<◌, ◌==◌, Bool, true, false, if◌then◌else◌, List, Option, None, Some, slice_get}
use Rattle.std.specs.List.{list_any, slice_index_or}
use Rattle.choices.specs.declared.pick.Pick.{Pick}
use Rattle.choices.specs.Picked.{PickedValue, IsRanked, choice_of_picked, marked_picks}
use Rattle.machine.specs.Outcome.{Ending}
use Rattle.checker.specs.Checker.{CheckerValue}
use Rattle.workers.specs.declared.entries.KnownEntry.{KnownEntry}
use Rattle.workers.specs.Failing.{Subject, ending_at}

-- a choice by its departures, what a checker ends in there, and the volatile parts that cover a sector of the footprint of
-- its run, by their numbers; no list: each of them may
pub record EntryValue : Type 0 where
  pub picks : List Pick
  pub ending : Ending
  pub told : Option (List ℕ)

-- whether a part may be told
abbrev pub tells : Option (List ℕ) → ℕ → Bool
tells None part = true
tells (Some told) part = list_any (λ (n : ℕ). n == part) told

-- of some departures none but the marked ones is of a part that may be told
abbrev pub NoneTold : Option (List ℕ) → List Bool → List Pick → Type 0
NoneTold told marks picks = (i : ℕ) (x : Pick) → slice_get picks i ≡ Some x → slice_index_or marks i false ≡ false → tells told x.part ≡ false

-- an entry has the marked ones of some departures, and none of the others is of a part that may be told
pub record Holds (entry : EntryValue) (marks : List Bool) (picks : List Pick) : Type 0 where
  pub own : marked_picks marks picks ≡ entry.picks
  pub others : NoneTold entry.told marks picks

-- at the wanted cut of that place the checker ends so on each choice for which the entry holds
abbrev pub IsKnown : Subject → ℕ → CheckerValue → EntryValue → Type 0
IsKnown s place checker entry = (n : ℕ) (p : PickedValue) (marks : List Bool) → p.place ≡ place → IsRanked s.plan s.bound s.tears n p → Holds entry marks p.picks
    → ending_at s (choice_of_picked s.plan p) checker ≡ entry.ending

abbrev pub AreKnown : Subject → ℕ → CheckerValue → List EntryValue → Type 0
AreKnown s place checker entries = (i : ℕ) (entry : EntryValue) → slice_get entries i ≡ Some entry → IsKnown s place checker entry

-- entry i is that of those departures
pub record IsEntryOf (entries : List EntryValue) (i : ℕ) (picks : List Pick) : Type 0 where
  pub entry : EntryValue
  pub there : slice_get entries i ≡ Some entry
  pub own : picks ≡ entry.picks

-- the entry that was found for some departures holds for them
pub record IsFound (entries : List EntryValue) (picks : List Pick) (found : KnownEntry) : Type 0 where
  pub entry : EntryValue
  pub there : slice_get entries found.entry ≡ Some entry
  pub holds : Holds entry found.marks picks

-- the first part after one that may be told, if there is one
abbrev pub IsNextTold : Option (List ℕ) → ℕ → Option ℕ → Type 0
IsNextTold told part None = (n : ℕ) → part < n → tells told n ≡ false
IsNextTold told part (Some next) = (part < next) × (tells told next ≡ true) × ((n : ℕ) → part < n → n < next → tells told n ≡ false)

-- those parts, or each
abbrev pub told_or : Bool → List ℕ → Option (List ℕ)
told_or all told = if all then None else Some told

-- numbers that rise
abbrev pub Rises : List ℕ → Type 0
Rises numbers = (i j a b : ℕ) → i < j → slice_get numbers i ≡ Some a → slice_get numbers j ≡ Some b → a < b
