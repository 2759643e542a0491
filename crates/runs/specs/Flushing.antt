-- What a log with added flushes leaves (docs/CRASH-MODEL.md, Where a flush helps).
use Rattle.std.specs.Prelude.{ℕ, ◌≡◌, Bool, if◌then◌else◌, List, None}
use Rattle.logfmt.specs.declared.entry.Entry.{Entry}
use Rattle.logfmt.specs.Bounds.{LogValue}
use Rattle.logfmt.specs.Flushed.{with_flushes}
use Rattle.epochs.specs.declared.part.By.{By}
use Rattle.epochs.specs.Units.{marks_at}
use Rattle.choices.specs.declared.choice.Departure.{Departure}
use Rattle.choices.specs.CrashModel.{IsAdmissible}
use Rattle.images.specs.Images.{crash_image}
use Rattle.losses.specs.declared.flushes.window.Window.{Window}
use Rattle.losses.specs.Windows.{IsWindow}
use Rattle.losses.specs.Places.{HoldsNone}
use Rattle.cases.specs.Risk.{is_at_risk}
use Rattle.cases.specs.Choices.{Choice, image_at}
use Rattle.cases.specs.Laws.{IsChoice}

-- An image of the log with flushes at these places is one of the log without them, by the same cut and departures: the same device, after as
-- many marks. None of the flushes stands in its window.
pub record IsLeftWithout (way : By) (log : LogValue) (bound : ℕ) (tears : Bool) (places : List ℕ) (cut : ℕ) (ds : List Departure) : Type 0 where
  pub choice : IsAdmissible way log.entries cut bound tears ds
  pub device : crash_image log cut ds ≡ crash_image (with_flushes places log) cut ds
  pub marks : marks_at log.entries cut ≡ marks_at (with_flushes places log).entries cut
  pub none : (w : Window) → IsWindow way log.entries cut ds w → HoldsNone w places

-- So with a flush in the window of each failing image that has one, only images without a window are left to fail, of a program that doesn't look
-- at the epoch, in which the flushes count.
abbrev pub ImagesAreLeft : Type 0
ImagesAreLeft =
    (way : By) (log : LogValue) (cut bound : ℕ) (tears : Bool) (ds : List Departure) (places : List ℕ)
    → IsAdmissible way (with_flushes places log).entries cut bound tears ds → IsLeftWithout way log bound tears places cut ds

-- a choice, but that all is whole that isn't at risk at the cut
abbrev pub of_risk : List Entry → ℕ → Choice → Choice
of_risk es cut choice p = if is_at_risk es cut p.entry then choice p else None

-- With any number of losses: the image of a choice is one of the log without the flushes, by the same cut and choice, but that all is whole that
-- the flushes make durable.
abbrev pub ChoicesAreLeft : Type 0
ChoicesAreLeft =
    (log : LogValue) (way : By) (tears : Bool) (cut : ℕ) (choice : Choice) (places : List ℕ) → IsChoice tears choice
    → IsChoice tears (of_risk (with_flushes places log).entries cut choice)
    × (image_at log way cut (of_risk (with_flushes places log).entries cut choice) ≡ image_at (with_flushes places log) way cut choice)

pub record FlushesBringNothing : Type 0 where
  pub images : ImagesAreLeft
  pub choices : ChoicesAreLeft
