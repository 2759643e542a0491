-- The ranked choices of a plan: at each wanted cut the choices of its volatile parts, cut after cut
-- (docs/CRASH-MODEL.md, Order and numbers of the images). Image n of a run is element n of this list.
use Rattle.std.specs.Prelude.{ℕ, zero, suc, ◌+◌, ◌-◌, ◌≡◌, ◌<◌, ◌≤◌, nat_lt, Bool, if◌then◌else◌, List, [], ◌∷◌, ◌++◌, length, map, take, slice_get, Some}
use Rattle.std.specs.List.{slice_index_or}
use Rattle.logfmt.specs.declared.entry.Entry.{Entry}
use Rattle.epochs.specs.declared.part.By.{By}
use Rattle.epochs.specs.declared.part.Part.{Part}
use Rattle.epochs.specs.Parts.{volatile_parts}
use Rattle.epochs.specs.Cuts.{cuts_of}
use Rattle.epochs.specs.Plan.{PlanValue}
use Rattle.choices.specs.declared.pick.Pick.{Pick}
use Rattle.choices.specs.declared.fate.Fate.{Fate}
use Rattle.choices.specs.declared.fate.Fate.TheVariants as fate
use Rattle.choices.specs.declared.choice.Departure.{Departure}
use Rattle.choices.specs.Picks.{picks_within, tears_of_part, fates_of}

-- a choice: the cut, its place among the wanted cuts, and the departures, also by their numbers
pub record ChoiceValue : Type 0 where
  pub place : ℕ
  pub cut : ℕ
  pub picks : List Pick
  pub departures : List Departure

-- the fates in their order: dropped, then the heads of 1 to 7 eighths, then the tails of 1 to 7 eighths
abbrev pub fate_of : ℕ → Fate
fate_of zero = fate.Drop
fate_of (suc t) = if nat_lt t tears_of_part then fate.Head (suc t) else fate.Tail (suc t - tears_of_part)

-- the part that stands for none, where a number is past the end
abbrev pub nowhere : Part
nowhere = record { entry = 0; place = 0; count = 0; sector = 0 }

-- the departure of those numbers
unfoldable pub departure_of : List Part → Pick → Departure
departure_of parts pick = record { part = slice_index_or parts pick.part nowhere; fate = fate_of pick.fate }

-- the choice of those departures at cut `cut`, which has that place among the wanted cuts
unfoldable pub choice_of : By → List Entry → ℕ → ℕ → List Pick → ChoiceValue
choice_of way es place cut picks = record { place = place; cut = cut; picks = picks; departures = map (departure_of (volatile_parts way es cut)) picks }

-- the choices at one cut
unfoldable pub choices_at : By → List Entry → ℕ → ℕ → ℕ → ℕ → List ChoiceValue
choices_at way es m bound place cut = map (choice_of way es place cut) (picks_within m bound (length (volatile_parts way es cut)))

-- the choices at a list of cuts, of which the first has that place
unfoldable pub choices_over : By → List Entry → ℕ → ℕ → ℕ → List ℕ → List ChoiceValue
choices_over way es m bound place [] = []
choices_over way es m bound place (cut ∷ cuts) = choices_at way es m bound place cut ++ choices_over way es m bound (place + 1) cuts

-- all choices of a plan, with at most `bound` departures, torn writes or none
unfoldable pub ranked_choices : PlanValue → ℕ → Bool → List ChoiceValue
ranked_choices plan bound tears = choices_over plan.by plan.log.entries (fates_of tears) bound 0 (cuts_of plan.kind plan.log.entries)

-- the choices of a plan at the first i of its wanted cuts
unfoldable pub ranked_before : PlanValue → ℕ → Bool → ℕ → List ChoiceValue
ranked_before plan bound tears i = choices_over plan.by plan.log.entries (fates_of tears) bound 0 (take i (cuts_of plan.kind plan.log.entries))

-- the choices at a cut of the log, wanted or not, as if it were the first wanted one (their place is 0)
unfoldable pub ranked_at : PlanValue → ℕ → Bool → ℕ → List ChoiceValue
ranked_at plan bound tears cut = choices_at plan.by plan.log.entries (fates_of tears) bound 0 cut

-- how many choices a run may have
abbrev pub limit : ℕ
limit = 16777216

-- how many choices a run may have of which a part is judged, or one alone is looked at
abbrev pub wide_limit : ℕ
wide_limit = 9223372036854775807

-- the number of choices first passes `most` with that wanted cut
pub record IsFirstPastOf (most : ℕ) (plan : PlanValue) (bound : ℕ) (tears : Bool) (cut : ℕ) : Type 0 where
  pub place : ℕ
  pub wanted : slice_get (cuts_of plan.kind plan.log.entries) place ≡ Some cut
  pub before : length (ranked_before plan bound tears place) ≤ most
  pub past : most < length (ranked_before plan bound tears (place + 1))

-- it first passes the limit with that wanted cut
abbrev pub IsFirstPast : PlanValue → ℕ → Bool → ℕ → Type 0
IsFirstPast plan bound tears cut = IsFirstPastOf limit plan bound tears cut

-- choice `number` of a plan is choice `rest` at the wanted cut of that place
pub record InCut (plan : PlanValue) (bound : ℕ) (tears : Bool) (number place rest : ℕ) : Type 0 where
  pub cut : ℕ
  pub wanted : slice_get (cuts_of plan.kind plan.log.entries) place ≡ Some cut
  pub sum : number ≡ length (ranked_before plan bound tears place) + rest
  pub within : rest < length (ranked_at plan bound tears cut)
