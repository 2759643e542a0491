-- What a checker can't tell apart (docs/MACHINE.md, Footprint).
use Rattle.std.specs.Prelude.{ℕ, ◌≡◌, ◌≤◌, nat_eq, if◌then◌else◌, List, length, slice_get, All, Contains, Some, is_some}
use Rattle.std.specs.List.{IsDistinct}
use Rattle.helpers.specs.declared.device.Context.{Context}
use Rattle.helpers.specs.Footprint.{FootprintValue, unread, footprint_after}
use Rattle.machine.specs.Footprint.{footprint, AreSectors}
use Rattle.machine.specs.Guards.{guarded_footprint}
use Rattle.checker.specs.Checker.{CheckerValue, judgement}

-- at which sectors the checker looks on that device and in that context
unfoldable pub footprint_of : CheckerValue → List (List ℕ) → Context → List ℕ
footprint_of checker device context =
    if is_some checker.guards then guarded_footprint checker.program device context checker.limit else footprint checker.program device context checker.limit

-- and what is kept of these in so much room
abbrev pub kept_footprint : ℕ → CheckerValue → List (List ℕ) → Context → FootprintValue
kept_footprint room checker device context = footprint_after (unread room) (footprint_of checker device context)

-- a list has each of some numbers, once, and no other
pub record ListsOnce (numbers own : List ℕ) : Type 0 where
  pub each : All (Contains own) numbers
  pub alone : All (Contains numbers) own
  pub once : IsDistinct nat_eq own

-- What is kept is the list of the sectors at which the checker looks, each once, no more than there is room for; or no list.
abbrev pub KeptIsFootprint : Type 0
KeptIsFootprint = (checker : CheckerValue) (device : List (List ℕ)) (context : Context) (room : ℕ) (sectors : List ℕ)
    → (kept_footprint room checker device context).sectors ≡ Some sectors → ListsOnce (footprint_of checker device context) sectors × (length sectors ≤ room)

-- two devices of one size, whose sectors have 512 bytes, have the same bytes in each of those sectors
pub record AgreeAt (sectors : List ℕ) (device other : List (List ℕ)) : Type 0 where
  pub count : length device ≡ length other
  pub whole : AreSectors device
  pub others : AreSectors other
  pub same : All (λ n. slice_get device n ≡ slice_get other n) sectors

-- the checker ends in the same on both devices, and looks at the same sectors
pub record IsJudgedAlike (checker : CheckerValue) (device other : List (List ℕ)) (context : Context) : Type 0 where
  pub ends : judgement checker other context ≡ judgement checker device context
  pub looks : footprint_of checker other context ≡ footprint_of checker device context

-- A checker can't tell a device from another one that agrees with it at the sectors that are kept of its run there.
abbrev pub AgreeingAreJudgedAlike : Type 0
AgreeingAreJudgedAlike = (checker : CheckerValue) (device other : List (List ℕ)) (context : Context) (room : ℕ) (sectors : List ℕ)
    → (kept_footprint room checker device context).sectors ≡ Some sectors → AgreeAt sectors device other → IsJudgedAlike checker device other context
