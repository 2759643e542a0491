-- The laws of groups.
use Rattle.std.specs.Prelude.{ℕ, ◌≡◌, ◌≤◌, List}
use Rattle.losses.specs.FirstParts.{AreChoices, IsPart, IsSmallest, IsGroup}
use Rattle.losses.specs.Folded.{StandsUnder}

-- the first of the smallest choices that are a part of choice i
pub record IsFirstSmallest (cs : List (List ℕ)) (i g : ℕ) : Type 0 where
  pub is_part : IsPart cs g i
  pub smallest : IsSmallest cs g
  pub first : (h : ℕ) → IsPart cs h i → IsSmallest cs h → g ≤ h

abbrev pub GroupIsSmallest : Type 0
GroupIsSmallest = (cs : List (List ℕ)) (i g : ℕ) → AreChoices cs → IsGroup cs i g → IsFirstSmallest cs i g

-- a choice stands under one example alone
abbrev pub StandsUnderOne : Type 0
StandsUnderOne = (cs : List (List ℕ)) (i e f : ℕ) → StandsUnder cs i e → StandsUnder cs i f → e ≡ f
