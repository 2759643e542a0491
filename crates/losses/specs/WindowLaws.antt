-- What holds of windows and of the flushes that are picked for them.
use Rattle.std.specs.Prelude.{ℕ, ◌+◌, ◌≡◌, ◌<◌, ◌≤◌, ◌==◌, nat_le, Bool, true, false, if◌then◌else◌, List, [], length, filter, slice_get, Some}
use Rattle.std.specs.List.{sum_by}
use Rattle.logfmt.specs.declared.entry.Entry.{Entry}
use Rattle.logfmt.specs.Bounds.{LogValue, IsLog}
use Rattle.logfmt.specs.Flushed.{flushed_at, is_place, with_flushes}
use Rattle.epochs.specs.declared.cuts.Cuts.{Cuts}
use Rattle.epochs.specs.declared.part.By.{By}
use Rattle.choices.specs.declared.choice.Departure.{Departure}
use Rattle.choices.specs.CrashModel.{IsAdmissible}
use Rattle.epochs.specs.Cuts.{is_flush_at}
use Rattle.epochs.specs.Laws.{IsWanted}
use Rattle.epochs.specs.Units.{marks_at, epoch_at}
use Rattle.images.specs.Images.{crash_image}
use Rattle.losses.specs.declared.flushes.window.Window.{Window}
use Rattle.losses.specs.declared.flushes.counted.MissingFlush.{MissingFlush}
use Rattle.losses.specs.Windows.{entry_arrives, IsWindow, HasNoWindow}
use Rattle.losses.specs.Places.{Holds, HoldsNone, AreWindows, ArePlaces, Covers}
use Rattle.losses.specs.Counted.{AreMissing}

-- the departures of the entries up to entry e
abbrev pub up_to : ℕ → List Departure → List Departure
up_to e ds = filter (λ (d : Departure). nat_le d.part.entry e) ds

-- A flush in the window of an image takes the image away: in the log with that flush, and with any others, its departures are no
-- choice at its cut. Nor is what departs up to the end of the window, right after it: the cut at which the same arrived.
abbrev pub FlushTakesAway : Type 0
FlushTakesAway =
    (way : By) (es : List Entry) (cut bound : ℕ) (tears : Bool) (ds : List Departure) (w : Window) (places : List ℕ) (p : ℕ)
    → IsWindow way es cut ds w → Holds w p → is_place places p ≡ true
    → (¬ (IsAdmissible way (flushed_at (is_place places) es) cut bound tears ds))
    × (¬ (IsAdmissible way (flushed_at (is_place places) es) (w.end + 1) bound tears (up_to w.end ds)))

-- the departures of entry e alone
abbrev pub only_of : ℕ → List Departure → List Departure
only_of e ds = filter (λ (d : Departure). d.part.entry == e) ds

-- no place stands before that entry
abbrev pub NoneBefore : ℕ → List ℕ → Type 0
NoneBefore e places = (i p : ℕ) → slice_get places i ≡ Some p → e ≤ p

-- What departs up to the end of the window, right after it, leaves the same device as all departures at the cut, after as many
-- marks and in the same epoch.
abbrev pub SameIsLeft : Type 0
SameIsLeft =
    (way : By) (log : LogValue) (cut bound : ℕ) (tears : Bool) (ds : List Departure) (w : Window)
    → cut ≤ length log.entries → IsWindow way log.entries cut ds w → IsAdmissible way log.entries cut bound tears ds
    → (crash_image log (w.end + 1) (up_to w.end ds) ≡ crash_image log cut ds)
    × (marks_at log.entries (w.end + 1) ≡ marks_at log.entries cut)
    × (epoch_at log.entries (w.end + 1) ≡ epoch_at log.entries cut)

-- An image is that of the cut right after entry f, at which the departures of f alone are a choice: the same device, after as
-- many marks and in the same epoch. That cut may be the image's own.
pub record IsOfCutAfter (way : By) (log : LogValue) (cut bound : ℕ) (tears : Bool) (ds : List Departure) (f : ℕ) : Type 0 where
  pub order : f + 1 ≤ cut
  pub choice : IsAdmissible way log.entries (f + 1) bound tears (only_of f ds)
  pub device : crash_image log (f + 1) (only_of f ds) ≡ crash_image log cut ds
  pub marks : marks_at log.entries (f + 1) ≡ marks_at log.entries cut
  pub epoch : epoch_at log.entries (f + 1) ≡ epoch_at log.entries cut

-- an image is that of the cut right before entry f, where nothing departs: the same device, after as many marks; one epoch
-- later where f is a flush entry, and else in the same
pub record IsOfCutBefore (log : LogValue) (cut : ℕ) (ds : List Departure) (f : ℕ) : Type 0 where
  pub device : crash_image log f [] ≡ crash_image log cut ds
  pub marks : marks_at log.entries f ≡ marks_at log.entries cut
  pub epoch : epoch_at log.entries cut ≡ epoch_at log.entries f + (if is_flush_at log.entries f then 1 else 0)

-- An image without a window, of which something departs, is that of the cut right after the first entry of which something does,
-- where nothing else departs. Where nothing of that entry arrived, it is that of the cut before it too, where nothing departs.
abbrev pub NothingElseIsLost : Type 0
NothingElseIsLost =
    (way : By) (log : LogValue) (cut bound : ℕ) (tears : Bool) (ds : List Departure) (first : Departure)
    → IsLog log → cut ≤ length log.entries → HasNoWindow way log.entries cut ds → IsAdmissible way log.entries cut bound tears ds
    → slice_get ds 0 ≡ Some first
    → IsOfCutAfter way log cut bound tears ds first.part.entry
    × ((entry : Entry) → slice_get log.entries first.part.entry ≡ Some entry → entry_arrives way ds first.part.entry entry ≡ false
    → IsOfCutBefore log cut ds first.part.entry)

-- Added flushes write nothing: what a cut and some departures leave stays, and so do its marks. So does its epoch, where none of
-- them stands before the cut.
abbrev pub FlushesWriteNothing : Type 0
FlushesWriteNothing =
    (log : LogValue) (places : List ℕ) (cut : ℕ) (ds : List Departure)
    → (crash_image (with_flushes places log) cut ds ≡ crash_image log cut ds)
    × (marks_at (with_flushes places log).entries cut ≡ marks_at log.entries cut)
    × (NoneBefore cut places → epoch_at (with_flushes places log).entries cut ≡ epoch_at log.entries cut)

-- a cut that is explored is explored with added flushes too
abbrev pub CutsStay : Type 0
CutsStay = (wanted : Cuts) (log : LogValue) (places : List ℕ) (cut : ℕ) → IsWanted wanted log.entries cut → IsWanted wanted (with_flushes places log).entries cut

-- in the log with flushes at these places that cut has that choice, and what it leaves is the device of an image of the log, after
-- as many marks
pub record IsLeftWith (way : By) (log : LogValue) (bound : ℕ) (tears : Bool) (places : List ℕ) (cut : ℕ) (ds : List Departure) (at : ℕ) (left : List Departure) : Type 0 where
  pub choice : IsAdmissible way (with_flushes places log).entries at bound tears left
  pub device : crash_image (with_flushes places log) at left ≡ crash_image log cut ds
  pub marks : marks_at (with_flushes places log).entries at ≡ marks_at log.entries cut

-- Flushes elsewhere, however many, leave what departs up to the end of the window, right after it. Where all of them stand before
-- the window they leave the image too.
abbrev pub FlushesElsewhereLeave : Type 0
FlushesElsewhereLeave =
    (way : By) (log : LogValue) (cut bound : ℕ) (tears : Bool) (ds : List Departure) (w : Window) (places : List ℕ)
    → cut ≤ length log.entries → IsWindow way log.entries cut ds w → IsAdmissible way log.entries cut bound tears ds
    → (HoldsNone w places → IsLeftWith way log bound tears places cut ds (w.end + 1) (up_to w.end ds))
    × (((i p : ℕ) → slice_get places i ≡ Some p → p < w.start) → IsLeftWith way log bound tears places cut ds cut ds)

-- No flushes, however many, take away an image in which nothing departs. Of another without a window they leave what departs of
-- the first entry of which something does, right after it. Where nothing of that entry arrived they leave the cut before it too,
-- where nothing departs.
abbrev pub NoFlushHelps : Type 0
NoFlushHelps =
    (way : By) (log : LogValue) (cut bound : ℕ) (tears : Bool) (ds : List Departure) (places : List ℕ)
    → IsLog log → cut ≤ length log.entries → HasNoWindow way log.entries cut ds → IsAdmissible way log.entries cut bound tears ds
    → (ds ≡ [] → IsLeftWith way log bound tears places cut ds cut [])
    × ((first : Departure) → slice_get ds 0 ≡ Some first
    → IsLeftWith way log bound tears places cut ds (first.part.entry + 1) (only_of first.part.entry ds)
    × ((entry : Entry) → slice_get log.entries first.part.entry ≡ Some entry → entry_arrives way ds first.part.entry entry ≡ false
    → IsLeftWith way log bound tears places cut ds first.part.entry []))

-- no fewer places have one in each window
abbrev pub PlacesAreFewest : Type 0
PlacesAreFewest = (n : ℕ) (ws : List Window) (ps qs : List ℕ) → AreWindows n ws → ArePlaces ws ps → Covers ws qs → length ps ≤ length qs

-- each window is counted at one flush
abbrev pub EachIsCountedOnce : Type 0
EachIsCountedOnce =
    (n : ℕ) (ws : List Window) (ms : List MissingFlush) → AreWindows n ws → AreMissing ws ms
    → sum_by (λ (m : MissingFlush). m.failing) ms ≡ length ws
