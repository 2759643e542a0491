-- Laws of crash images: what one more unit changes, and what a key tells (docs/CRASH-MODEL.md, Crash image, Keys of
-- images).
use Rattle.std.specs.Prelude.{ℕ, ◌-◌, ◌*◌, ◌≡◌, ◌≢◌, ◌≤◌, ◌↔◌, true, false, IsTrue, List, [], ◌∷◌, ◌++◌, length, map, take, drop, replicate, slice_get, slice_index, Some}
use Rattle.std.specs.List.{range_with_len}
use Rattle.logfmt.specs.Bounds.{LogValue, IsLog, AreBytes}
use Rattle.logfmt.specs.Initial.{initial_byte, initial_sector}
use Rattle.epochs.specs.declared.unit.Unit.{Unit as LogUnit}
use Rattle.epochs.specs.Units.{unit_content, epoch_at}
use Rattle.epochs.specs.Plan.{IsUnit}
use Rattle.choices.specs.declared.fate.Fate.TheVariants as fate
use Rattle.choices.specs.declared.choice.Departure.{Departure}
use Rattle.images.specs.Images.{departures_of, writes, byte_after, sector_after}
use Rattle.images.specs.Views.{ViewValue, sectors_of, context_at, ContextFits}
use Rattle.images.specs.Keys.{KeyValue, base_of, key_of}
use Rattle.images.specs.Equal.{same_key}

-- before the first unit there is the initial content; a unit after others: its own byte stands where it writes that byte, and
-- else what the others leave
pub record LastWriterShows : Type 0 where
  pub nothing : (log : LogValue) (ds : List Departure) (s i : ℕ) → byte_after log [] ds s i ≡ initial_byte log.initial s i
  pub written : (log : LogValue) (us : List LogUnit) (u : LogUnit) (ds : List Departure) (s i : ℕ) → writes ds s i u ≡ true
      → byte_after log (us ++ u ∷ []) ds s i ≡ slice_index (unit_content log.entries u) i
  pub lost : (log : LogValue) (us : List LogUnit) (u : LogUnit) (ds : List Departure) (s i : ℕ) → writes ds s i u ≡ false
      → byte_after log (us ++ u ∷ []) ds s i ≡ byte_after log us ds s i

-- a unit after others, by the fate of its part: whole it is its sector, dropped it changes nothing, and torn what it has of
-- the part's head stands before the rest of what the others leave, or what it has of the tail after the beginning of that;
-- other sectors stay
pub record FatesShow : Type 0 where
  pub whole : (log : LogValue) (us : List LogUnit) (u : LogUnit) (ds : List Departure) → IsLog log → IsUnit log u → departures_of ds u ≡ []
      → sector_after log (us ++ u ∷ []) ds u.sector ≡ unit_content log.entries u
  pub dropped : (log : LogValue) (us : List LogUnit) (u : LogUnit) (ds : List Departure) (s : ℕ) (d : Departure)
      → departures_of ds u ≡ d ∷ [] → d.fate ≡ fate.Drop
      → sector_after log (us ++ u ∷ []) ds s ≡ sector_after log us ds s
  pub head : (log : LogValue) (us : List LogUnit) (u : LogUnit) (ds : List Departure) (d : Departure) (t m : ℕ) → IsLog log → IsUnit log u
      → departures_of ds u ≡ d ∷ [] → d.fate ≡ fate.Head t → m ≡ 64 * (t * d.part.count) - 512 * (u.place - d.part.place) → m ≤ 512
      → sector_after log (us ++ u ∷ []) ds u.sector ≡ take m (unit_content log.entries u) ++ drop m (sector_after log us ds u.sector)
  pub tail : (log : LogValue) (us : List LogUnit) (u : LogUnit) (ds : List Departure) (d : Departure) (t m : ℕ) → IsLog log → IsUnit log u
      → departures_of ds u ≡ d ∷ [] → d.fate ≡ fate.Tail t → m ≡ 512 * d.part.count - 64 * (t * d.part.count) - 512 * (u.place - d.part.place) → m ≤ 512
      → sector_after log (us ++ u ∷ []) ds u.sector ≡ take m (sector_after log us ds u.sector) ++ drop m (unit_content log.entries u)
  pub elsewhere : (log : LogValue) (us : List LogUnit) (u : LogUnit) (ds : List Departure) (s : ℕ) → s ≢ u.sector
      → sector_after log (us ++ u ∷ []) ds s ≡ sector_after log us ds s

-- cuts of one epoch have one base, and in epoch 0 it is what the device held before entry 0: zeros where no initial content is given
pub record EpochHasBase : Type 0 where
  pub one : (log : LogValue) (j k : ℕ) → epoch_at log.entries j ≡ epoch_at log.entries k → base_of log j ≡ base_of log k
  pub first : (log : LogValue) (k : ℕ) → epoch_at log.entries k ≡ 0 → base_of log k ≡ map (initial_sector log.initial) (range_with_len 0 log.sectors)
  pub zeros : (log : LogValue) (k : ℕ) → log.initial ≡ [] → epoch_at log.entries k ≡ 0
      → base_of log k ≡ replicate log.sectors (replicate {A = ℕ} 512 0)

-- two keys of one log are the same exactly where program, context and image are
abbrev pub KeysTell : Type 0
KeysTell = (a b : ViewValue) (p q : ℕ) (key other : KeyValue) → a.log ≡ b.log → key_of a p ≡ Some key → key_of b q ≡ Some other
    → (key ≡ other) ↔ ((p ≡ q) × (context_at a.log a.cut ≡ context_at b.log b.cut) × (sectors_of a ≡ sectors_of b))

-- `==` of keys answers whether they are the same
abbrev pub EqualKeysAreSame : Type 0
EqualKeysAreSame = (a b : KeyValue) → IsTrue (same_key a b) ↔ (a ≡ b)

-- what a view shows is a device of its log's size, of sectors of 512 bytes, and a context with small numbers
pub record ShowsDevice (view : ViewValue) : Type 0 where
  pub count : length (sectors_of view) ≡ view.log.sectors
  pub long : (n : ℕ) (sector : List ℕ) → slice_get (sectors_of view) n ≡ Some sector → length sector ≡ 512
  pub bytes : (n : ℕ) (sector : List ℕ) → slice_get (sectors_of view) n ≡ Some sector → AreBytes sector
  pub fits : ContextFits (context_at view.log view.cut)

-- whichever the cut and the departures
abbrev pub ImagesAreDevices : Type 0
ImagesAreDevices = (view : ViewValue) → IsLog view.log → ShowsDevice view
