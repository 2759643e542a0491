-- Groups of failing choices in which the same parts are lost and the same parts are torn. The number of a departure is 15 times its
-- part, and then the place of its fate: 0 where the part is lost, and 1 to 14 where it is torn (docs/CRASH-MODEL.md, Fates and choices).
use Rattle.std.specs.Prelude.{ℕ, ◌+◌, ◌*◌, ◌/◌, ◌%◌, ◌==◌, ◌≡◌, ◌≤◌, if◌then◌else◌, List, length, map, slice_get, Some}
use Rattle.losses.specs.FirstParts.{IsSmallest, IsGroup}

-- what becomes of the part of a departure, however much of it is torn: 15 times the part, and then 0 where it is lost and 1 where it is torn
abbrev pub lost_or_torn : ℕ → ℕ
lost_or_torn n = 15 * (n / 15) + (if n % 15 == 0 then 0 else 1)

-- in both choices the same parts are lost, and the same are torn
abbrev pub AreAlike : List ℕ → List ℕ → Type 0
AreAlike ns ms = map lost_or_torn ns ≡ map lost_or_torn ms

-- choice e is alike to choice g
pub record IsAlike (cs : List (List ℕ)) (e g : ℕ) : Type 0 where
  pub example : List ℕ
  pub example_there : slice_get cs e ≡ Some example
  pub other : List ℕ
  pub other_there : slice_get cs g ≡ Some other
  pub alike : AreAlike example other

-- the example of choice g: of the smallest choices that are alike to it the first
pub record IsExample (cs : List (List ℕ)) (g e : ℕ) : Type 0 where
  pub is_alike : IsAlike cs e g
  pub smallest : IsSmallest cs e
  pub first : (h : ℕ) → IsAlike cs h g → IsSmallest cs h → e ≤ h

-- choice i stands under the example of a choice that is a part of it, the first failing one
pub record StandsUnder (cs : List (List ℕ)) (i e : ℕ) : Type 0 where
  pub part : ℕ
  pub is_part : IsGroup cs i part
  pub example : IsExample cs part e

-- the example under which each choice stands
pub record AreFolded (cs : List (List ℕ)) (es : List ℕ) : Type 0 where
  pub each_once : length es ≡ length cs
  pub each : (i e : ℕ) → slice_get es i ≡ Some e → StandsUnder cs i e
