-- Where a flush would take an image away (docs/CRASH-MODEL.md, Where a flush helps). An image is a cut and its departures, rising.
use Rattle.std.specs.Prelude.{ℕ, ◌+◌, ◌==◌, ◌≡◌, ◌<◌, ◌≤◌, nat_lt, Bool, true, false, ◌&&◌, ◌||◌, List, length, filter, slice_get, Some}
use Rattle.std.specs.Option.{option_map_or}
use Rattle.logfmt.specs.declared.entry.Entry.{Entry}
use Rattle.epochs.specs.declared.part.By.{By}
use Rattle.epochs.specs.Parts.{part_count}
use Rattle.choices.specs.declared.fate.Fate.{Fate}
use Rattle.choices.specs.declared.fate.Fate.TheVariants as fate
use Rattle.choices.specs.declared.choice.Departure.{Departure}
use Rattle.losses.specs.declared.flushes.window.Window.{Window}

-- nothing of the part arrives
abbrev pub is_drop : Fate → Bool
is_drop fate.Drop = true
is_drop (fate.Head t) = false
is_drop (fate.Tail t) = false

-- a departure is the loss of a part of entry e
abbrev pub drops : ℕ → Departure → Bool
drops e d = (d.part.entry == e) && is_drop d.fate

-- something of entry e arrived: it has more parts than are lost
abbrev pub entry_arrives : By → List Departure → ℕ → Entry → Bool
entry_arrives way ds e entry = nat_lt (length (filter (drops e) ds)) (part_count way entry)

-- entry e may end a window: something of it arrived, or it is a mark
abbrev pub is_end : By → List Entry → List Departure → ℕ → Bool
is_end way es ds e = option_map_or (λ (entry : Entry). entry.flags.mark || entry_arrives way ds e entry) (slice_get es e) false

-- the window: from after the first entry of which something departs to the last one after it that may end a window
pub record IsWindow (way : By) (es : List Entry) (cut : ℕ) (ds : List Departure) (w : Window) : Type 0 where
  pub first : Departure
  pub departs : slice_get ds 0 ≡ Some first
  pub start : w.start ≡ first.part.entry + 1
  pub order : w.start ≤ w.end
  pub before : w.end < cut
  pub end : is_end way es ds w.end ≡ true
  pub last : (e : ℕ) → w.end < e → e < cut → is_end way es ds e ≡ false

-- no window: nothing departs, or no entry after the first of which something departs may end one
abbrev pub HasNoWindow : By → List Entry → ℕ → List Departure → Type 0
HasNoWindow way es cut ds =
    (first : Departure) (e : ℕ) → slice_get ds 0 ≡ Some first → first.part.entry < e → e < cut → is_end way es ds e ≡ false
