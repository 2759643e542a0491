-- The ranked choices of a plan are the set of its choices, in their order; where entries have one sector, both ways are the
-- same. Below it the law of the list of one cut, by numbers.
use Rattle.std.specs.Prelude.{ℕ, ◌+◌, ◌≡◌, ◌<◌, ◌≤◌, ◌⊎◌, Bool, List, [], ◌∷◌, length, slice_get, Some}
use Rattle.logfmt.specs.declared.entry.Entry.{Entry}
use Rattle.logfmt.specs.Bounds.{LogValue}
use Rattle.epochs.specs.declared.cuts.Cuts.{Cuts}
use Rattle.epochs.specs.declared.part.By.TheVariants as by
use Rattle.epochs.specs.Plan.{PlanValue}
use Rattle.epochs.specs.Laws.{IsWanted}
use Rattle.choices.specs.declared.pick.Pick.{Pick}
use Rattle.choices.specs.declared.choice.Departure.{Departure}
use Rattle.choices.specs.Picks.{picks_within}
use Rattle.choices.specs.Choices.{ChoiceValue, ranked_choices}
use Rattle.choices.specs.CrashModel.{IsAdmissible, ChoicePrecedes}

-- the list has the pairs of a wanted cut and an admissible choice there and no other, each once, in
-- their order
pub record ListsModel (plan : PlanValue) (bound : ℕ) (tears : Bool) (list : List ChoiceValue) : Type 0 where
  pub wanted : (n : ℕ) (c : ChoiceValue) → slice_get list n ≡ Some c → IsWanted plan.kind plan.log.entries c.cut
  pub sound : (n : ℕ) (c : ChoiceValue) → slice_get list n ≡ Some c → IsAdmissible plan.by plan.log.entries c.cut bound tears c.departures
  pub complete : (k : ℕ) (ds : List Departure) → IsWanted plan.kind plan.log.entries k → IsAdmissible plan.by plan.log.entries k bound tears ds
      → (n : ℕ) × (c : ChoiceValue) × (slice_get list n ≡ Some c) × (c.cut ≡ k) × (c.departures ≡ ds)
  pub ordered : (i j : ℕ) (a b : ChoiceValue) → i < j → slice_get list i ≡ Some a → slice_get list j ≡ Some b → ChoicePrecedes a b
  pub once : (i j : ℕ) (a b : ChoiceValue) → slice_get list i ≡ Some a → slice_get list j ≡ Some b → a.cut ≡ b.cut → a.departures ≡ b.departures → i ≡ j

abbrev pub RankedIsModel : Type 0
RankedIsModel = (plan : PlanValue) (bound : ℕ) (tears : Bool) → ListsModel plan bound tears (ranked_choices plan bound tears)

-- where no entry has more than one sector, a write is a sector: by either the same choices are in the list, in the same order
abbrev pub WaysAgree : Type 0
WaysAgree =
    (log : LogValue) (kind : Cuts) (bound : ℕ) (tears : Bool) → ((e : ℕ) (entry : Entry) → slice_get log.entries e ≡ Some entry → entry.count ≤ 1)
    → ranked_choices (record { log = log; kind = kind; by = by.Write }) bound tears ≡ ranked_choices (record { log = log; kind = kind; by = by.Sector }) bound tears

-- departures rising by part, of parts from a on and below e, by fates below m
abbrev pub AreRising : ℕ → ℕ → ℕ → List Pick → Type 0
AreRising m a e [] = Unit {0}
AreRising m a e (d ∷ ds) = (a ≤ d.part) × (d.part < e) × (d.fate < m) × AreRising m (d.part + 1) e ds

-- at most `bound` of v volatile parts depart, each by one of m fates
pub record IsChoice (m bound v : ℕ) (ds : List Pick) : Type 0 where
  pub few : length ds ≤ bound
  pub rising : AreRising m 0 v ds

-- of two choices of as many departures: first by part and then by fate, departure after departure
abbrev pub Before : List Pick → List Pick → Type 0
Before [] ds = ⊥
Before (c ∷ cs) [] = ⊥
Before (c ∷ cs) (d ∷ ds) = (c.part < d.part) ⊎ ((c.part ≡ d.part) × ((c.fate < d.fate) ⊎ ((c.fate ≡ d.fate) × Before cs ds)))

-- by the number of departures, then by these
abbrev pub Precedes : List Pick → List Pick → Type 0
Precedes cs ds = (length cs < length ds) ⊎ ((length cs ≡ length ds) × Before cs ds)

-- the list has these choices and no other, in their order, and so each once
pub record ListsChoices (m bound v : ℕ) (list : List (List Pick)) : Type 0 where
  pub sound : (n : ℕ) (ds : List Pick) → slice_get list n ≡ Some ds → IsChoice m bound v ds
  pub complete : (ds : List Pick) → IsChoice m bound v ds → (n : ℕ) × (slice_get list n ≡ Some ds)
  pub ordered : (i j : ℕ) (cs ds : List Pick) → i < j → slice_get list i ≡ Some cs → slice_get list j ≡ Some ds → Precedes cs ds

abbrev pub ListIsSet : Type 0
ListIsSet = (m bound v : ℕ) → ListsChoices m bound v (picks_within m bound v)
