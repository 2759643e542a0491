-- Which failing choice stands for another: the first of those that are a part of it. A choice is the numbers of its
-- departures, rising; all choices are of one cut.
use Rattle.std.specs.Prelude.{ℕ, ◌≡◌, ◌<◌, ◌≤◌, ◌⊎◌, List, [], ◌∷◌, length, slice_get, Some}

-- each number of the first stands in the second
abbrev pub IsPartOf : List ℕ → List ℕ → Type 0
IsPartOf ns ms = (i n : ℕ) → slice_get ns i ≡ Some n → (j : ℕ) × (slice_get ms j ≡ Some n)

-- the numbers rise, and so each stands there once
abbrev pub AreRising : List ℕ → Type 0
AreRising ns = (i j n m : ℕ) → i < j → slice_get ns i ≡ Some n → slice_get ns j ≡ Some m → n < m

-- at the first place where they differ, the number of the first is below that of the second
abbrev pub DiffersBelow : List ℕ → List ℕ → Type 0
DiffersBelow [] ms = ⊥
DiffersBelow (n ∷ ns) [] = ⊥
DiffersBelow (n ∷ ns) (m ∷ ms) = (n < m) ⊎ ((n ≡ m) × DiffersBelow ns ms)

-- by the number of departures, and then departure after departure
abbrev pub Precedes : List ℕ → List ℕ → Type 0
Precedes ns ms = (length ns < length ms) ⊎ ((length ns ≡ length ms) × DiffersBelow ns ms)

-- choices of a cut in their order
pub record AreChoices (cs : List (List ℕ)) : Type 0 where
  pub rising : (i : ℕ) (ns : List ℕ) → slice_get cs i ≡ Some ns → AreRising ns
  pub ordered : (i j : ℕ) (ns ms : List ℕ) → i < j → slice_get cs i ≡ Some ns → slice_get cs j ≡ Some ms → Precedes ns ms

-- choice g is a part of choice i
pub record IsPart (cs : List (List ℕ)) (g i : ℕ) : Type 0 where
  pub part : List ℕ
  pub part_there : slice_get cs g ≡ Some part
  pub whole : List ℕ
  pub whole_there : slice_get cs i ≡ Some whole
  pub within : IsPartOf part whole

-- no other choice is a part of it
abbrev pub IsSmallest : List (List ℕ) → ℕ → Type 0
IsSmallest cs g = (h : ℕ) → IsPart cs h g → h ≡ g

-- the first choice that is a part of choice i
pub record IsGroup (cs : List (List ℕ)) (i g : ℕ) : Type 0 where
  pub is_part : IsPart cs g i
  pub first : (h : ℕ) → IsPart cs h i → g ≤ h

-- the group of each choice
pub record AreGroups (cs : List (List ℕ)) (gs : List ℕ) : Type 0 where
  pub each_once : length gs ≡ length cs
  pub each : (i g : ℕ) → slice_get gs i ≡ Some g → IsGroup cs i g
