-- What departures leave of a sector that parts of some of them cover (docs/CRASH-MODEL.md, Crash image).
use Rattle.std.specs.Prelude.{ℕ, ◌≡◌, ◌≤◌, Bool, true, List, length, slice_get, Some}
use Rattle.logfmt.specs.Bounds.{IsLog}
use Rattle.epochs.specs.Plan.{PlanValue}
use Rattle.epochs.specs.Touching.{covers, touching}
use Rattle.choices.specs.declared.choice.Departure.{Departure}
use Rattle.choices.specs.declared.pick.Pick.{Pick}
use Rattle.choices.specs.Picked.{choice_of_picked, IsRanked, Extends}
use Rattle.images.specs.Table.{AreParts}
use Rattle.images.specs.Views.{ViewValue, sectors_of, view_of}

-- each departure of the first list whose part covers the sector is one of the second
abbrev pub HasCovering : List Departure → List Departure → ℕ → Type 0
HasCovering ds es n = (i : ℕ) (d : Departure) → slice_get ds i ≡ Some d → covers d.part n ≡ true → (j : ℕ) × (slice_get es j ≡ Some d)

-- images of one cut of which the same departures cover a sector have the same bytes there, whatever their others are
abbrev pub CoveringTells : Type 0
CoveringTells = (view : ViewValue) (others : List Departure) (n : ℕ) → IsLog view.log → view.cut ≤ length view.log.entries
    → AreParts view.log view.departures → AreParts view.log others
    → HasCovering view.departures others n → HasCovering others view.departures n
    → slice_get (sectors_of (record view { departures = others })) n ≡ slice_get (sectors_of view) n

-- the sectors of the image of a choice of departures at a cut
abbrev pub sectors_at : PlanValue → ℕ → ℕ → List Pick → List (List ℕ)
sectors_at plan place cut picks = sectors_of (view_of plan (choice_of_picked plan (record { place = place; cut = cut; picks = picks })))

-- two choices of a cut, of which one has the other's departures, and beside them none whose part covers one of some sectors, leave
-- the same bytes in each of these
abbrev pub TouchingTells : Type 0
TouchingTells = (plan : PlanValue) (bound : ℕ) (tears : Bool) (i j place cut : ℕ) (own picks : List Pick) (sectors : List ℕ) → IsLog plan.log
    → IsRanked plan bound tears i (record { place = place; cut = cut; picks = own })
    → IsRanked plan bound tears j (record { place = place; cut = cut; picks = picks })
    → Extends own (touching plan.by plan.log.entries cut sectors) picks
    → (at n : ℕ) → slice_get sectors at ≡ Some n → slice_get (sectors_at plan place cut picks) n ≡ slice_get (sectors_at plan place cut own) n
