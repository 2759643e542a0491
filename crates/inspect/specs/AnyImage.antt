-- One crash image with any number of lost or torn parts, as bytes or in words (docs/COMMANDS.md, Commands).
use Rattle.std.specs.Prelude.{ℕ, ◌≡◌, Bool, List, [], slice_get, length, Some}
use Rattle.base.specs.declared.refusal.Refusal.{Refusal}
use Rattle.base.specs.Refusals.{memory_refusal}
use Rattle.logfmt.specs.Bounds.{LogValue}
use Rattle.epochs.specs.Cuts.{cuts_of}
use Rattle.choices.specs.declared.choice.Departure.{Departure}
use Rattle.images.specs.Images.{crash_image}
use Rattle.cases.specs.Choices.{departures}
use Rattle.cases.specs.Cases.{representative}
use Rattle.cases.specs.AtCut.{CutValue, parts_of, case_of}
use Rattle.lost_text.specs.Said.{IsSaid}
use Rattle.crash_text.specs.AnyShown.{any_shown_text}
use Rattle.request.specs.declared.settings.Settings.{Settings}
use Rattle.request.specs.declared.settings.OptionPlace.TheVariants as place
use Rattle.request.specs.Settings.{option_refusal}
use Rattle.request.specs.Source.{Recording, plan_of, IsLogOf, RefusesLog}
use Rattle.inspect.specs.declared.looks.image_command.ImageForm.{ImageForm}
use Rattle.inspect.specs.declared.looks.image_command.ImageForm.TheVariants as form
use Rattle.inspect.specs.Image.{sector_bytes}

-- a cut of a log
abbrev pub cut_of : Settings → LogValue → ℕ → CutValue
cut_of s value cut = record { log = value; way = s.by; cut = cut }

-- what is lost and torn at a cut is that of the representative of a case, which has a set for each part at risk
pub record IsLostOf (at : CutValue) (sets : List ℕ) (ds : List Departure) : Type 0 where
  pub tears : Bool
  pub each : length sets ≡ length (parts_of at)
  pub departs : departures (representative (case_of tears (parts_of at) sets)) (parts_of at) ≡ ds

-- the cut is a wanted one, and what a choice there loses and tears is printed so
pub record IsMeantLoss (s : Settings) (value : LogValue) (cut : ℕ) (said : List ℕ) (ds : List Departure) : Type 0 where
  pub place : ℕ
  pub wanted : slice_get (cuts_of s.cuts value.entries) place ≡ Some cut
  pub is : IsSaid (cut_of s value cut) s.tears said ds

pub record NoneIsMeant (s : Settings) (value : LogValue) (cut : ℕ) (said : List ℕ) : Type 0 where
  pub none : (ds : List Departure) → IsMeantLoss s value cut said ds → ⊥

-- the crash image of what is lost and torn at a cut: its sectors one after the other; or in words, beside the image of the cut where
-- nothing is
abbrev pub any_text_in : ImageForm → Settings → LogValue → ℕ → List Departure → List ℕ
any_text_in form.Bytes s value cut ds = sector_bytes (crash_image value cut ds)
any_text_in form.Words s value cut ds = any_shown_text (plan_of s value) s.tears cut ds (crash_image value cut []) (crash_image value cut ds)

-- of what a choice loses and tears that is meant, and no other is, the bytes tell the image
pub record IsToldSo (form : ImageForm) (s : Settings) (value : LogValue) (cut : ℕ) (said : List ℕ) (bytes : List ℕ) : Type 0 where
  pub departures : List Departure
  pub meant : IsMeantLoss s value cut said departures
  pub only : (others : List Departure) → IsMeantLoss s value cut said others → others ≡ departures
  pub told : bytes ≡ any_text_in form s value cut departures

-- the bytes tell the image that is meant
pub record IsAnyImage (form : ImageForm) (text : Recording) (s : Settings) (cut : ℕ) (said : List ℕ) (bytes : List ℕ) : Type 0 where
  pub value : LogValue
  pub reads : IsLogOf text s value
  pub shown : IsToldSo form s value cut said bytes

-- the refusals in their order: the log, then a choice that isn't printed so of any wanted cut of that number
pub data RefusesAnyImage (text : Recording) (s : Settings) (cut : ℕ) (said : List ℕ) : Refusal → Type 0 where
  for_any_log : (r : Refusal) → RefusesLog text s r → RefusesAnyImage text s cut said r
  for_choice : (value : LogValue) → IsLogOf text s value → NoneIsMeant s value cut said → RefusesAnyImage text s cut said (option_refusal place.Choice)
  for_any_memory : (value : LogValue) → IsLogOf text s value → RefusesAnyImage text s cut said memory_refusal
