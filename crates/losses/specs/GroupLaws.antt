-- The laws of groups with their numbers.
use Rattle.std.specs.Prelude.{ℕ, ◌≡◌, ◌+◌, ◌↔◌, true, List, length, slice_get, Some}
use Rattle.std.specs.List.{sum_by}
use Rattle.choices.specs.Sums.{StartsValue}
use Rattle.losses.specs.FirstParts.{AreChoices, IsSmallest}
use Rattle.losses.specs.Folded.{StandsUnder}
use Rattle.losses.specs.declared.why.group.FailingGroup.{FailingGroup}
use Rattle.losses.specs.declared.why.cut.CutFailures.{CutFailures}
use Rattle.losses.specs.CountedGroups.{times, ends_at, AreGrouped}
use Rattle.losses.specs.Failures.{AreImages, AreCuts}

-- the group of the example at a place: it has as many images as stand under that place, and is said to end alike where all of these do
pub record IsGroupOf (outcomes : List (List ℕ)) (begin : ℕ) (images places : List ℕ) (k : ℕ) (g : FailingGroup) : Type 0 where
  pub image : slice_get images k ≡ Some g.image
  pub line : g.line ≡ begin + k
  pub failing : g.failing ≡ times k places
  pub same : (g.same ≡ true) ↔ ((i : ℕ) → slice_get places i ≡ Some k → ends_at outcomes (begin + i) ≡ ends_at outcomes (begin + k))

-- some group is the one of that example
pub record HasGroup (outcomes : List (List ℕ)) (begin : ℕ) (images places : List ℕ) (groups : List FailingGroup) (k : ℕ) : Type 0 where
  pub number : ℕ
  pub group : FailingGroup
  pub there : slice_get groups number ≡ Some group
  pub is_of : IsGroupOf outcomes begin images places k group

-- a group is the one of an example, whose choice is smallest
pub record HasExample (outcomes : List (List ℕ)) (begin : ℕ) (images places : List ℕ) (cs : List (List ℕ)) (g : FailingGroup) : Type 0 where
  pub place : ℕ
  pub smallest : IsSmallest cs place
  pub is_of : IsGroupOf outcomes begin images places place g

-- Each image stands under one group: under that of the example in which the same is lost and the same is torn as in a choice that is
-- a part of its own. The numbers of the groups are those of the images that stand under them, and add up to that of all images.
pub record StandOnce (outcomes : List (List ℕ)) (begin : ℕ) (images : List ℕ) (cs : List (List ℕ)) (groups : List FailingGroup) : Type 0 where
  pub places : List ℕ
  pub each_once : length places ≡ length images
  pub stands : (i k : ℕ) → slice_get places i ≡ Some k → StandsUnder cs i k
  pub has_group : (i k : ℕ) → slice_get places i ≡ Some k → HasGroup outcomes begin images places groups k
  pub has_example : (number : ℕ) (g : FailingGroup) → slice_get groups number ≡ Some g → HasExample outcomes begin images places cs g
  pub adds_up : sum_by (λ (g : FailingGroup). g.failing) groups ≡ length images

abbrev pub EachStandsOnce : Type 0
EachStandsOnce = (outcomes : List (List ℕ)) (begin : ℕ) (images : List ℕ) (cs : List (List ℕ)) (groups : List FailingGroup) → AreChoices cs → length cs ≡ length images
    → AreGrouped outcomes begin images cs groups → StandOnce outcomes begin images cs groups

-- the numbers of the cuts add up to that of all images on which the program fails
abbrev pub AllStand : Type 0
AllStand = (s : StartsValue) (failing : List ℕ) (outcomes : List (List ℕ)) (cs : List CutFailures) → AreImages s failing → AreCuts s failing outcomes cs
    → sum_by (λ (c : CutFailures). c.failing) cs ≡ length failing
