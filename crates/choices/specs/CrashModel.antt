-- The choices of the crash model in its own words, with no list and no number after them: what may
-- depart, how, and which choice comes before which (docs/CRASH-MODEL.md, Fates and choices, Order and
-- numbers of the images).
use Rattle.std.specs.Prelude.{ℕ, ◌≡◌, ◌<◌, ◌≤◌, ◌⊎◌, Bool, true, List, length, take, slice_get, Some}
use Rattle.logfmt.specs.declared.entry.Entry.{Entry}
use Rattle.epochs.specs.declared.part.By.{By}
use Rattle.epochs.specs.Laws.{IsVolatile, Precedes as PartPrecedes}
use Rattle.choices.specs.declared.fate.Fate.{Fate}
use Rattle.choices.specs.declared.fate.Fate.TheVariants as fate
use Rattle.choices.specs.declared.choice.Departure.{Departure}
use Rattle.choices.specs.Choices.{ChoiceValue}

-- a part that departs is dropped, or, where writes may be torn, of it arrive the first or the last 1 to 7
-- eighths
abbrev pub IsFate : Bool → Fate → Type 0
IsFate tears fate.Drop = Unit {0}
IsFate tears (fate.Head t) = (tears ≡ true) × (1 ≤ t) × (t < 8)
IsFate tears (fate.Tail t) = (tears ≡ true) × (1 ≤ t) × (t < 8)

-- the drop comes before each head and each tail, each head before each tail, and of two heads or two
-- tails the shorter before the longer
abbrev pub FatePrecedes : Fate → Fate → Type 0
FatePrecedes fate.Drop fate.Drop = ⊥
FatePrecedes fate.Drop (fate.Head t) = Unit {0}
FatePrecedes fate.Drop (fate.Tail t) = Unit {0}
FatePrecedes (fate.Head s) fate.Drop = ⊥
FatePrecedes (fate.Head s) (fate.Head t) = s < t
FatePrecedes (fate.Head s) (fate.Tail t) = Unit {0}
FatePrecedes (fate.Tail s) fate.Drop = ⊥
FatePrecedes (fate.Tail s) (fate.Head t) = ⊥
FatePrecedes (fate.Tail s) (fate.Tail t) = s < t

-- first by part (by entry, then by sector of the entry), and then by fate
abbrev pub DeparturePrecedes : Departure → Departure → Type 0
DeparturePrecedes c d = PartPrecedes c.part d.part ⊎ ((c.part ≡ d.part) × FatePrecedes c.fate d.fate)

-- the departures of an admissible choice at cut k: at most `bound` of the parts that are volatile there,
-- rising, and so each part once, each with one of the fates
pub record IsAdmissible (way : By) (es : List Entry) (k bound : ℕ) (tears : Bool) (ds : List Departure) : Type 0 where
  pub few : length ds ≤ bound
  pub volatile : (i : ℕ) (d : Departure) → slice_get ds i ≡ Some d → IsVolatile way es k d.part
  pub fates : (i : ℕ) (d : Departure) → slice_get ds i ≡ Some d → IsFate tears d.fate
  pub rising : (i j : ℕ) (c d : Departure) → i < j → slice_get ds i ≡ Some c → slice_get ds j ≡ Some d → PartPrecedes c.part d.part

-- at the first place where two sequences of departures differ, that of the first comes before
pub record DiffersFirst (cs ds : List Departure) : Type 0 where
  pub place : ℕ
  pub before : take place cs ≡ take place ds
  pub left : Departure
  pub left_there : slice_get cs place ≡ Some left
  pub right : Departure
  pub right_there : slice_get ds place ≡ Some right
  pub precedes : DeparturePrecedes left right

-- by the number of departures, and then departure after departure
abbrev pub DeparturesPrecede : List Departure → List Departure → Type 0
DeparturesPrecede cs ds = (length cs < length ds) ⊎ ((length cs ≡ length ds) × DiffersFirst cs ds)

-- by cut, and then by departures
abbrev pub ChoicePrecedes : ChoiceValue → ChoiceValue → Type 0
ChoicePrecedes a b = (a.cut < b.cut) ⊎ ((a.cut ≡ b.cut) × DeparturesPrecede a.departures b.departures)
