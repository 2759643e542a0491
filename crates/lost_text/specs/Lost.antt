-- What becomes of each of some parts, by the names of what is lost and torn of them, in the same order.
use Rattle.std.specs.Prelude.{ℕ, ◌≡◌, ◌+◌, ◌^◌, Bool, true, false, if◌then◌else◌, List, [], ◌∷◌, ◌++◌, map, slice_get, Option, None, Some}
use Rattle.epochs.specs.declared.part.Part.{Part}
use Rattle.choices.specs.declared.choice.Departure.{Departure}
use Rattle.choices.specs.declared.fate.Fate.{Fate}
use Rattle.choices.specs.declared.fate.Fate.TheVariants as fate
use Rattle.choices.specs.declared.name.Name.{Name}
use Rattle.choices.specs.Seeking.{is_named}
use Rattle.cases.specs.Choices.{departs}
use Rattle.cases.specs.Sets.{fates_in}

-- what becomes of a part: the first name says it, or it is whole
abbrev pub fate_said : Part → List Name → Option Fate
fate_said p [] = None
fate_said p (n ∷ ns) = if is_named p n then Some n.fate else None

-- the names that are left for the parts after it
abbrev pub left_after : Part → List Name → List Name
left_after p [] = []
left_after p (n ∷ ns) = if is_named p n then ns else n ∷ ns

-- what becomes of each of some parts, in order, and the names that are left
abbrev pub fates_said : List Part → List Name → List (Option Fate)
fates_said [] ns = []
fates_said (p ∷ ps) ns = fate_said p ns ∷ fates_said ps (left_after p ns)

abbrev pub names_left : List Part → List Name → List Name
names_left [] ns = ns
names_left (p ∷ ps) ns = names_left ps (left_after p ns)

-- what is lost and torn of some parts, of which these become
abbrev pub lost_of : List Part → List (Option Fate) → List Departure
lost_of [] fs = []
lost_of (p ∷ ps) [] = []
lost_of (p ∷ ps) (f ∷ fs) = departs p f ++ lost_of ps fs

-- a set of one fate
abbrev pub only : Option Fate → List (Option Fate)
only f = f ∷ []

-- the set of one fate: a number of one bit, whole the lowest, then the drop, the heads, rising, and the tails, rising
unfoldable pub set_of : Option Fate → ℕ
set_of None = 1
set_of (Some fate.Drop) = 2
set_of (Some (fate.Head t)) = 2 ^ (t + 1)
set_of (Some (fate.Tail t)) = 2 ^ (t + 8)

-- a set is that of one fate, and has no other
pub record IsSetOf (set : ℕ) (f : Option Fate) : Type 0 where
  pub fates : fates_in set ≡ only f
  pub value : set ≡ set_of f

-- it is appended to others
pub record PutsSet (old new : List ℕ) (f : Option Fate) : Type 0 where
  pub set : ℕ
  pub is : IsSetOf set f
  pub put : new ≡ old ++ set ∷ []

-- sets are those of these fates, each of one
pub record AreSetsOf (sets : List ℕ) (fs : List (Option Fate)) : Type 0 where
  pub fates : map fates_in sets ≡ map only fs
  pub value : sets ≡ map set_of fs

-- a part may be torn where tears are asked for alone
abbrev pub is_possible : Bool → Fate → Bool
is_possible tears fate.Drop = true
is_possible tears (fate.Head t) = tears
is_possible tears (fate.Tail t) = tears

-- one of some names has a fate that isn't
pub record IsImpossible (tears : Bool) (ns : List Name) : Type 0 where
  pub place : ℕ
  pub name : Name
  pub there : slice_get ns place ≡ Some name
  pub torn : is_possible tears name.fate ≡ false
