-- The version table of a log: for each sector of the device the units that cover it, in order; and what a view keeps
-- beside its log, cut and departures.
use Rattle.std.specs.Prelude.{ℕ, ◌-◌, ◌*◌, ◌/◌, ◌==◌, nat_lt, ◌≡◌, ◌<◌, ◌≤◌, Bool, true, false, if◌then◌else◌, List, [], ◌∷◌, length, filter, slice_get, slice_index_or, Option, Some, None}
use Rattle.std.specs.List.{last_or}
use Rattle.std.specs.List.Sorted.{IsNonDecreasingBy}
use Rattle.std.specs.Option.{option_map_or, is_some}
use Rattle.logfmt.specs.declared.entry.Entry.{Entry}
use Rattle.logfmt.specs.Bounds.{LogValue, IsLog}
use Rattle.epochs.specs.declared.unit.Unit.{Unit as LogUnit}
use Rattle.epochs.specs.Units.{units_before}
use Rattle.epochs.specs.Plan.{IsPart}
use Rattle.choices.specs.declared.fate.Fate.{Fate}
use Rattle.choices.specs.declared.fate.Fate.TheVariants as fate
use Rattle.choices.specs.declared.choice.Departure.{Departure}
use Rattle.helpers.specs.declared.device.Context.{Context}
use Rattle.images.specs.declared.torn.TornSector.{TornSector}
use Rattle.images.specs.Images.{is_in, departures_of, sector_after}
use Rattle.images.specs.Views.{ViewValue, context_at, ContextFits}

-- the units of a list that cover sector s
unfoldable pub covering : ℕ → List LogUnit → List LogUnit
covering s us = filter (λ (u : LogUnit). u.sector == s) us

-- the units of a log, in the order of the sectors that they cover; those of one sector are in the order of the log
pub record AreUnits (log : LogValue) (units : List LogUnit) : Type 0 where
  pub bounds : IsLog log
  pub rising : IsNonDecreasingBy (λ (u : LogUnit). u.sector) units
  pub filled : (s : ℕ) → covering s units ≡ covering s (units_before log.entries (length log.entries))

-- the units before a place cover sectors before s, and no other does
pub record Divides (units : List LogUnit) (s place : ℕ) : Type 0 where
  pub bound : place ≤ length units
  pub before : (k : ℕ) (d : LogUnit) → k < place → (slice_index_or units k d).sector < s
  pub beyond : (k : ℕ) (d : LogUnit) → place ≤ k → k < length units → s ≤ (slice_index_or units k d).sector

-- where every 64th sector begins
abbrev pub AreStarts : List LogUnit → List ℕ → Type 0
AreStarts units starts = (p d : ℕ) → p < length starts → Divides units (64 * p) (slice_index_or starts p d)

-- the table of a log
pub record IsTable (log : LogValue) (units : List LogUnit) (places : List ℕ) : Type 0 where
  pub bounds : IsLog log
  pub rising : IsNonDecreasingBy (λ (u : LogUnit). u.sector) units
  pub filled : (s : ℕ) → covering s units ≡ covering s (units_before log.entries (length log.entries))
  pub starts : AreStarts units places

-- the units before cut k that cover sector s
abbrev pub versions : List Entry → ℕ → ℕ → List LogUnit
versions es k s = covering s (units_before es k)

-- each unit departs at most once: the parts of departures have no unit in common
abbrev pub DepartOnce : List Departure → Type 0
DepartOnce ds = (u : LogUnit) → length (departures_of ds u) ≤ 1

-- a unit of which only the first, or the last, that many eighths are of what a torn part keeps; none where it is whole
abbrev pub head_of : ℕ → Option Fate
head_of kept = if kept == 0 then Some fate.Drop else if nat_lt kept 8 then Some (fate.Head kept) else None

abbrev pub tail_of : ℕ → Option Fate
tail_of kept = if kept == 0 then Some fate.Drop else if nat_lt kept 8 then Some (fate.Tail kept) else None

-- what becomes of sector j of a part of that many sectors, by the fate of the part
abbrev pub share_of : Fate → ℕ → ℕ → Option Fate
share_of fate.Drop count j = Some fate.Drop
share_of (fate.Head eighths) count j = head_of (eighths * count - 8 * j)
share_of (fate.Tail eighths) count j = tail_of (eighths * count - 8 * (count - 1 - j))

-- what a departure makes of a unit; none where it takes nothing of it
unfoldable pub share : Departure → LogUnit → Option Fate
share d u = if is_in d.part u then share_of d.fate d.part.count (u.place - d.part.place) else None

-- the first that is there
abbrev pub first_fate : Option Fate → Option Fate → Option Fate
first_fate (Some f) other = Some f
first_fate None other = other

-- the fate of a unit of which something departs; none where it is whole
unfoldable pub fate_at : List Departure → LogUnit → Option Fate
fate_at [] u = None
fate_at (d ∷ ds) u = first_fate (share d u) (fate_at ds u)

-- in which of its sectors, from 0, a part of that many sectors is torn, if it is
abbrev pub tear_of : Fate → ℕ → ℕ
tear_of fate.Drop count = 0
tear_of (fate.Head eighths) count = (eighths * count) / 8
tear_of (fate.Tail eighths) count = (8 * count - eighths * count) / 8

-- something of a unit with that fate reaches the device: it isn't dropped
abbrev pub leaves : Option Fate → Bool
leaves None = true
leaves (Some fate.Drop) = false
leaves (Some (fate.Head eighths)) = true
leaves (Some (fate.Tail eighths)) = true

unfoldable pub reaches : List Departure → LogUnit → Bool
reaches ds u = leaves (fate_at ds u)

-- the unit that shows, of units that cover one sector: the last of which something reaches the device
unfoldable pub showing : List Departure → List LogUnit → Option LogUnit
showing ds us = last_or None (filter (reaches ds) us)

-- a torn unit shows: the unit that shows isn't whole
unfoldable pub is_torn : List Departure → List LogUnit → Bool
is_torn ds us = option_map_or (λ (u : LogUnit). is_some (fate_at ds u)) (showing ds us) false

-- one of the sectors has that number
abbrev pub HasSector : List TornSector → ℕ → Type 0
HasSector torn n = (j : ℕ) × (t : TornSector) × (slice_get torn j ≡ Some t) × (t.number ≡ n)

-- each has its bytes of the image, and each sector in which a torn unit shows is there
pub record AreTorn (log : LogValue) (cut : ℕ) (ds : List Departure) (torn : List TornSector) : Type 0 where
  pub bytes : (j : ℕ) (t : TornSector) → slice_get torn j ≡ Some t
      → t.content ≡ sector_after log (units_before log.entries cut) ds t.number
  pub all : (n : ℕ) → n < log.sectors → is_torn ds (versions log.entries cut n) ≡ true → HasSector torn n

-- departures of parts of a log
abbrev pub AreParts : LogValue → List Departure → Type 0
AreParts log ds = (i : ℕ) (d : Departure) → slice_get ds i ≡ Some d → IsPart log d.part

-- what a view keeps
pub record IsView (view : ViewValue) (torn : List TornSector) (context : Context) : Type 0 where
  pub bounds : IsLog view.log
  pub within : view.cut ≤ length view.log.entries
  pub departs : AreParts view.log view.departures
  pub owned : AreTorn view.log view.cut view.departures torn
  pub told : context ≡ context_at view.log view.cut
  pub fits : ContextFits context
