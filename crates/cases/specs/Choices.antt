-- What may become of each part, with no bound on how many are lost (docs/CRASH-MODEL.md, Any number of losses).
use Rattle.std.specs.Prelude.{ℕ, Bool, true, false, List, [], ◌∷◌, ◌++◌, map, Option, None, Some}
use Rattle.std.specs.List.{range_with_len}
use Rattle.logfmt.specs.Bounds.{LogValue}
use Rattle.epochs.specs.declared.part.Part.{Part}
use Rattle.epochs.specs.declared.part.By.{By}
use Rattle.choices.specs.declared.fate.Fate.{Fate}
use Rattle.choices.specs.declared.fate.Fate.TheVariants as fate
use Rattle.choices.specs.declared.choice.Departure.{Departure}
use Rattle.images.specs.Images.{crash_image}
use Rattle.cases.specs.Risk.{parts_at_risk}

-- what becomes of each part: the fate with which it is lost or torn, and none where it is whole
abbrev pub Choice : Type 0
Choice = Part → Option Fate

-- all that may become of a part, in order
abbrev pub all_fates : Bool → List (Option Fate)
all_fates false = None ∷ Some fate.Drop ∷ []
all_fates true = None ∷ Some fate.Drop ∷ map (λ t. Some (fate.Head t)) (range_with_len 1 7) ++ map (λ t. Some (fate.Tail t)) (range_with_len 1 7)

-- what is lost or torn of a part
abbrev pub departs : Part → Option Fate → List Departure
departs p None = []
departs p (Some f) = record { part = p; fate = f } ∷ []

-- what is lost or torn of these parts
abbrev pub departures : Choice → List Part → List Departure
departures choice [] = []
departures choice (p ∷ ps) = departs p (choice p) ++ departures choice ps

-- the crash image of cut k with that choice
abbrev pub image_at : LogValue → By → ℕ → Choice → List (List ℕ)
image_at log way k choice = crash_image log k (departures choice (parts_at_risk way log.entries k))
