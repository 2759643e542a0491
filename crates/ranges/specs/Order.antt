-- Which abstract values and states know more than others, in the words of their machine values
-- (docs/VERIFIER.md, Abstract states), and the bounds that the types of the code keep.
use Rattle.std.specs.Prelude.{◌≡◌, ℕ, ◌≤◌, ◌⊎◌, not, IsTrue, Bool, List, [], ◌∷◌, length, Option, None, Some}
use Rattle.intervals.specs.Spans.{IsSpan, Within}
use Rattle.intervals.specs.Reducing.{LimitsWithin, IsLimits}
use Rattle.ranges.specs.Kinds.{Kind, Unset, Word, Num, Ctx, Stack, Sector, SectorOrNull, is_number, is_unknown}
use Rattle.ranges.specs.Groups.{GroupKind, Marked, Spilled, unset_marks}
use Rattle.ranges.specs.States.{Abstract}

-- it isn't unset
abbrev pub IsWord : Kind → Type 0
IsWord Unset = ⊥
IsWord _ = Unit {0}

-- the second holds all that the first does
abbrev pub Under : Kind → Kind → Type 0
Under k Unset = Unit {0}
Under k Word = IsWord k
Under (Num x) (Num y) = LimitsWithin x y
Under (Ctx a) (Ctx b) = a ≡ b
Under (Stack a) (Stack b) = a ≡ b
Under (Sector x) (Sector y) = Within x y
Under SectorOrNull SectorOrNull = Unit {0}
Under _ _ = ⊥

-- what is written in the second is written in the first
abbrev pub MarksUnder : List Bool → List Bool → Type 0
MarksUnder [] [] = Unit {0}
MarksUnder (x ∷ xs) (y ∷ ys) = (IsTrue y → IsTrue x) × MarksUnder xs ys
MarksUnder _ _ = ⊥

abbrev pub GroupUnder : GroupKind → GroupKind → Type 0
GroupUnder (Marked xs) (Marked ys) = MarksUnder xs ys
GroupUnder (Spilled k) (Marked ys) = IsTrue (is_number k) ⊎ (ys ≡ unset_marks)
GroupUnder (Spilled k) (Spilled l) = Under k l
GroupUnder (Marked xs) (Spilled l) = ⊥

-- place by place
abbrev pub EachUnder : {X : Type 0} → (X → X → Type 0) → List X → List X → Type 0
EachUnder R [] [] = Unit {0}
EachUnder R (x ∷ xs) (y ∷ ys) = R x y × EachUnder R xs ys
EachUnder R _ _ = ⊥

pub record StateUnder (s t : Abstract) : Type 0 where
  pub values : EachUnder Under s.values t.values
  pub groups : EachUnder GroupUnder s.groups t.groups

-- the bounds of values, of groups and of states
abbrev pub IsBounded : Kind → Type 0
IsBounded Unset = Unit {0}
IsBounded Word = Unit {0}
IsBounded (Num x) = IsLimits x
IsBounded (Ctx o) = o ≤ 32
IsBounded (Stack o) = o ≤ 512
IsBounded (Sector x) = IsSpan 65535 x
IsBounded SectorOrNull = Unit {0}

abbrev pub IsGroup : GroupKind → Type 0
IsGroup (Marked marks) = length marks ≡ 8
IsGroup (Spilled k) = IsTrue (not (is_unknown k)) × IsBounded k

abbrev pub Each : {X : Type 0} → (X → Type 0) → List X → Type 0
Each P [] = Unit {0}
Each P (x ∷ xs) = P x × Each P xs

pub record IsState (s : Abstract) : Type 0 where
  pub values : Each IsBounded s.values
  pub groups : Each IsGroup s.groups
  pub registers : length s.values ≡ 11
  pub stack : length s.groups ≡ 64

-- what there is has a property
abbrev pub Holds : {X : Type 0} → (X → Type 0) → Option X → Type 0
Holds P None = Unit {0}
Holds P (Some x) = P x

-- what is passed along an edge, if something is; nothing is under all
abbrev pub EdgeUnder : Option Abstract → Option Abstract → Type 0
EdgeUnder None n = Unit {0}
EdgeUnder (Some s) None = ⊥
EdgeUnder (Some s) (Some t) = StateUnder s t

-- what is passed to which slots: for each of the first there is one of the second, in the same order, that is passed
-- to the same slot and is above it
abbrev pub SentUnder : List (ℕ × Abstract) → List (ℕ × Abstract) → Type 0
SentUnder [] qs = Unit {0}
SentUnder (p ∷ ps) [] = ⊥
SentUnder (p ∷ ps) (q ∷ qs) = ((p.0 ≡ q.0) × StateUnder p.1 q.1 × SentUnder ps qs) ⊎ SentUnder (p ∷ ps) qs
