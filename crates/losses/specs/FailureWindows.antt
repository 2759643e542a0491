-- The failures of a run (docs/CRASH-MODEL.md, Where a flush helps): the failing lines, each with its window.
use Rattle.std.specs.Prelude.{ℕ, ◌≡◌, not, false, List, [], ◌∷◌, length, map, filter, Option, None, Some, slice_get}
use Rattle.std.specs.List.{flat_map}
use Rattle.logfmt.specs.declared.entry.Entry.{Entry}
use Rattle.epochs.specs.declared.part.By.{By}
use Rattle.choices.specs.declared.choice.Departure.{Departure}
use Rattle.choices.specs.Choices.{ChoiceValue, ranked_choices}
use Rattle.choices.specs.Sums.{StartsValue}
use Rattle.losses.specs.declared.flushes.window.Window.{Window}
use Rattle.losses.specs.declared.flushes.counted.MissingFlush.{MissingFlush}
use Rattle.losses.specs.Windows.{IsWindow, HasNoWindow}
use Rattle.losses.specs.Places.{Holds, AreWindows}
use Rattle.report.specs.declared.lines.marks.LineMark.{LineMark}
use Rattle.report.specs.Line.{FailingLine}
use Rattle.losses.specs.declared.cure.failure.Failure.{Failure}

-- the window of an image, or that it has none
abbrev pub IsWindowIf : By → List Entry → ℕ → List Departure → Option Window → Type 0
IsWindowIf way es cut ds None = HasNoWindow way es cut ds
IsWindowIf way es cut ds (Some w) = IsWindow way es cut ds w

-- the failure of a failing line of a log with those entries
pub record IsFailure (way : By) (es : List Entry) (l : FailingLine) (f : Failure) : Type 0 where
  pub program : f.program ≡ l.program
  pub window : IsWindowIf way es l.cut l.departures f.window

-- of each line, in their order
pub record AreFailures (way : By) (es : List Entry) (ls : List FailingLine) (fs : List Failure) : Type 0 where
  pub all : length fs ≡ length ls
  pub each : (i : ℕ) (l : FailingLine) (f : Failure) → slice_get ls i ≡ Some l → slice_get fs i ≡ Some f → IsFailure way es l f

-- the window of a failure, where it has one
abbrev pub if_window : Option Window → List Window
if_window None = []
if_window (Some w) = w ∷ []

abbrev pub own_window : Failure → List Window
own_window f = if_window f.window

abbrev pub windows_in : List Failure → List Window
windows_in fs = flat_map own_window fs

-- the places of a round
abbrev pub place_in : MissingFlush → ℕ
place_in m = m.at

abbrev pub places_in : List MissingFlush → List ℕ
places_in ms = map place_in ms

-- no entry at a place of the windows is a flush entry
abbrev pub HoldNoFlush : List Entry → List Window → Type 0
HoldNoFlush es ws = (i : ℕ) (w : Window) (p : ℕ) (e : Entry) → slice_get ws i ≡ Some w → Holds w p → slice_get es p ≡ Some e → e.flags.flush ≡ false

-- how many entries are no flush entries
abbrev pub calm_entries : List Entry → ℕ
calm_entries es = length (filter (λ (e : Entry). not e.flags.flush) es)

-- the failure of a mark, by the choice of its image: its window holds no flush entry
pub record IsFailureAt (s : StartsValue) (m : LineMark) (f : Failure) : Type 0 where
  pub program : f.program ≡ m.program
  pub choice : ChoiceValue
  pub there : slice_get (ranked_choices s.plan s.bound s.tears) m.image ≡ Some choice
  pub window : IsWindowIf s.plan.by s.plan.log.entries choice.cut choice.departures f.window
  pub inside : AreWindows (length s.plan.log.entries) (if_window f.window)
  pub calm : HoldNoFlush s.plan.log.entries (if_window f.window)

pub record AreFailuresAt (s : StartsValue) (ms : List LineMark) (fs : List Failure) : Type 0 where
  pub all : length fs ≡ length ms
  pub each : (i : ℕ) (m : LineMark) (f : Failure) → slice_get ms i ≡ Some m → slice_get fs i ≡ Some f → IsFailureAt s m f
  pub inside : AreWindows (length s.plan.log.entries) (windows_in fs)
  pub calm : HoldNoFlush s.plan.log.entries (windows_in fs)
