-- The search of a choice by names, in the terms that the code computes with.
use Rattle.std.specs.Prelude.{ℕ, ◌≡◌, ◌+◌, ◌<◌, ◌≤◌, ◌==◌, ◌&&◌, Bool, true, false, List, length, map, slice_get, Some}
use Rattle.epochs.specs.declared.part.Part.{Part}
use Rattle.choices.specs.declared.fate.Fate.{Fate}
use Rattle.choices.specs.declared.fate.Fate.TheVariants as fate
use Rattle.choices.specs.declared.name.Name.{Name}
use Rattle.choices.specs.declared.pick.Pick.{Pick}
use Rattle.choices.specs.Picks.{tears_of_part}
use Rattle.choices.specs.Choices.{departure_of}
use Rattle.choices.specs.Laws.{AreRising}
use Rattle.choices.specs.Named.{name_of}

-- the number of a fate in their order
abbrev pub number_of : Fate → ℕ
number_of fate.Drop = 0
number_of (fate.Head t) = t
number_of (fate.Tail t) = tears_of_part + t

-- a part is the one that a name says
abbrev pub is_named : Part → Name → Bool
is_named u name = (u.entry == name.entry) && (u.place == name.place)

-- of the parts from a on and below e none is the one that a name says
pub record NoneNamed (us : List Part) (name : Name) (a e : ℕ) : Type 0 where
  pub each : (i : ℕ) (u : Part) → a ≤ i → i < e → slice_get us i ≡ Some u → is_named u name ≡ false

-- part i is the first one from a on that a name says
pub record IsFirstNamed (us : List Part) (name : Name) (a i : ℕ) : Type 0 where
  pub low : a ≤ i
  pub inside : i < length us
  pub part : Part
  pub there : slice_get us i ≡ Some part
  pub named : is_named part name ≡ true
  pub first : NoneNamed us name a i

-- the name of a departure by numbers
abbrev pub pick_name : List Part → Pick → Name
pick_name us pick = name_of (departure_of us pick)

-- a departure of a part from a on, by one of m fates, has that name
pub record IsPickOf (us : List Part) (m : ℕ) (name : Name) (a : ℕ) (pick : Pick) : Type 0 where
  pub low : a ≤ pick.part
  pub inside : pick.part < length us
  pub fate : pick.fate < m
  pub named : pick_name us pick ≡ name

pub record NoPickOf (us : List Part) (m : ℕ) (name : Name) (a : ℕ) : Type 0 where
  pub none : (pick : Pick) → IsPickOf us m name a pick → ⊥

-- and it is the first of these
pub record IsFirstPick (us : List Part) (m : ℕ) (name : Name) (a : ℕ) (pick : Pick) : Type 0 where
  pub is : IsPickOf us m name a pick
  pub first : (other : Pick) → IsPickOf us m name a other → pick.part ≤ other.part

-- departures by numbers, rising by part, have these names
pub record ArePicksOf (us : List Part) (m : ℕ) (names : List Name) (picks : List Pick) : Type 0 where
  pub rising : AreRising m 0 (length us) picks
  pub named : map (pick_name us) picks ≡ names

pub record NoPicksOf (us : List Part) (m : ℕ) (names : List Name) : Type 0 where
  pub none : (picks : List Pick) → ArePicksOf us m names picks → ⊥

-- no wanted cut is that one
pub record LacksCut (cuts : List ℕ) (cut : ℕ) : Type 0 where
  pub none : (i : ℕ) → slice_get cuts i ≡ Some cut → ⊥
