-- What a worker keeps from one image to the next, and when it is true of a run (docs/MACHINE.md, Footprint).
use Rattle.std.specs.Prelude.{ℕ, ◌+◌, ◌≡◌, ◌<◌, ◌≤◌, Bool, false, List, length, Option, None, Some, slice_get, IfSome}
use Rattle.std.specs.List.{slice_index_or}
use Rattle.base.specs.Sizes.{most_units}
use Rattle.logfmt.specs.Bounds.{LogValue}
use Rattle.epochs.specs.Parts.{volatile_parts}
use Rattle.choices.specs.declared.pick.Pick.{Pick}
use Rattle.choices.specs.Choices.{ChoiceValue}
use Rattle.choices.specs.Picks.{fates_of}
use Rattle.choices.specs.Picked.{PickedValue, choice_of_picked, IsRanked, CanPass, pick_after}
use Rattle.machine.specs.Outcome.{Ending}
use Rattle.interp.specs.Ending.{ending_of}
use Rattle.checker.specs.Checker.{CheckerValue}
use Rattle.checker.specs.Memory.{AreServed}
use Rattle.workers.specs.declared.entries.KnownEntry.{KnownEntry}
use Rattle.workers.specs.declared.look.Stop.{Stop}
use Rattle.workers.specs.declared.look.EntryLook.{EntryLook}
use Rattle.workers.specs.declared.look.EntryLook.TheVariants.{Good, Stops}
use Rattle.workers.specs.Failing.{Subject, image_count, ending_at, line_of}
use Rattle.workers.specs.Reuse.{EntryValue, AreKnown, tells}

-- what is known by footprints: at the wanted cut of that place, if at any, the entries of each checker; and by its picks the
-- image with which the next block may begin
pub record ReuseValue : Type 0 where
  pub place : Option ℕ
  pub entries : List (List EntryValue)
  pub next : Option (ℕ × PickedValue)

-- the log whose changes are kept for keys, what is known by footprints, and whether there is memory for programs with guards
pub record LocalValue : Type 0 where
  pub log : LogValue
  pub reuse : ReuseValue
  pub memory : Bool

-- each checker has its entries, and they are true at the wanted cut of that place
pub record AreTrueAt (s : Subject) (place : ℕ) (entries : List (List EntryValue)) : Type 0 where
  pub enough : length s.checkers ≤ length entries
  pub known : (i : ℕ) (checker : CheckerValue) (own : List EntryValue) → slice_get s.checkers i ≡ Some checker → slice_get entries i ≡ Some own
      → AreKnown s place checker own

-- what is known is true of a run
pub record IsTrueOf (s : Subject) (r : ReuseValue) : Type 0 where
  pub entries : (place : ℕ) → r.place ≡ Some place → AreTrueAt s place r.entries
  pub next : (image : ℕ) (p : PickedValue) → r.next ≡ Some (image, p) → image < image_count s → IsRanked s.plan s.bound s.tears image p

-- what a worker keeps belongs to a run
pub record IsLocal (s : Subject) (l : LocalValue) : Type 0 where
  pub log : l.log ≡ s.plan.log
  pub reuse : IsTrueOf s l.reuse
  pub served : AreServed l.memory s.checkers

-- so a checker ends on the image of a choice
abbrev pub EndsAt : Subject → ChoiceValue → ℕ → Ending → Type 0
EndsAt s choice i ending = (checker : CheckerValue) → slice_get s.checkers i ≡ Some checker → ending ≡ ending_at s choice checker

-- what is said of what it ends in there, if anything is
abbrev pub IsOutcome : Subject → ChoiceValue → Stop → Type 0
IsOutcome s choice stop = IfSome stop.outcome (λ o. EndsAt s choice stop.checker (ending_of o))

-- of that many images in a row, from that of a choice on, a checker makes no line
abbrev pub AreGood : Subject → PickedValue → ℕ → ℕ → Type 0
AreGood s p count i = (n j : ℕ) → IsRanked s.plan s.bound s.tears n p → j < count → line_of s (n + j) i ≡ None

-- how many volatile parts the cut of a choice has
abbrev pub parts_at : Subject → PickedValue → ℕ
parts_at s p = length (volatile_parts s.plan.by s.plan.log.entries p.cut)

-- that many choices in a row, from one on, differ in their last departure alone
abbrev pub Reaches : Subject → PickedValue → ℕ → Type 0
Reaches s p count = (j : ℕ) → 1 ≤ j → j < count → (parts_at s p ≤ most_units) × (front : List Pick) × (last : Pick) × CanPass (fates_of s.tears) (parts_at s p) j front last p.picks

-- the entry that was found for a choice holds for that many in a row from it on, of which the last departure alone differs
abbrev pub HoldsFrom : Subject → PickedValue → KnownEntry → EntryValue → ℕ → Type 0
HoldsFrom s p found entry count = (front : List Pick) (last : Pick) (j : ℕ) → CanPass (fates_of s.tears) (parts_at s p) j front last p.picks → 1 ≤ j → j < count
    → (slice_index_or found.marks (length front) false ≡ false) × (tells entry.told (pick_after (fates_of s.tears) j last).part ≡ false)

-- what is said of a choice and a checker
abbrev pub Tells : Subject → PickedValue → ℕ → ℕ → EntryLook → Type 0
Tells s p most i (Good count) = (1 ≤ count) × (count ≤ most) × AreGood s p count i
Tells s p most i (Stops stop) = (stop.checker ≡ i) × IsOutcome s (choice_of_picked s.plan p) stop

-- what is said of a choice: that many images are good by all checkers, or its own is by those before one
abbrev pub TellsAll : Subject → PickedValue → ℕ → EntryLook → Type 0
TellsAll s p most (Good count) = (1 ≤ count) × (count ≤ most) × Reaches s p count × ((i : ℕ) → i < length s.checkers → AreGood s p count i)
TellsAll s p most (Stops stop) = ((i : ℕ) → i < stop.checker → AreGood s p 1 i) × IsOutcome s (choice_of_picked s.plan p) stop
