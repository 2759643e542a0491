-- The choice that a text says at a cut, of any number of the parts at risk there (docs/CRASH-MODEL.md, Any number of losses).
use Rattle.std.specs.Prelude.{ℕ, ◌≡◌, Bool, List, length, map}
use Rattle.epochs.specs.declared.part.Part.{Part}
use Rattle.choices.specs.declared.choice.Departure.{Departure}
use Rattle.report.specs.LineText.{choice_text}
use Rattle.cases.specs.Choices.{Choice, departures}
use Rattle.cases.specs.Cases.{representative}
use Rattle.cases.specs.Laws.{IsChoice}
use Rattle.cases.specs.AtCut.{CutValue, parts_of, case_of}
use Rattle.lost_text.specs.Lost.{set_of}

-- what a choice at a cut loses and tears, of any number of the parts at risk there, is printed so
pub record IsSaid (at : CutValue) (tears : Bool) (said : List ℕ) (ds : List Departure) : Type 0 where
  pub choice : Choice
  pub possible : IsChoice tears choice
  pub departs : ds ≡ departures choice (parts_of at)
  pub printed : said ≡ choice_text at.way ds

pub record NoneIsSaid (at : CutValue) (tears : Bool) (said : List ℕ) : Type 0 where
  pub none : (ds : List Departure) → IsSaid at tears said ds → ⊥

-- that alone is, and it is what the representative of a case loses and tears, which has for each part at risk the set of what becomes of it
pub record IsLostSo (at : CutValue) (tears : Bool) (said : List ℕ) (sets : List ℕ) (ds : List Departure) : Type 0 where
  pub is : IsSaid at tears said ds
  pub only : (others : List Departure) → IsSaid at tears said others → others ≡ ds
  pub each : length sets ≡ length (parts_of at)
  pub departs : departures (representative (case_of tears (parts_of at) sets)) (parts_of at) ≡ ds
  pub fates : (others : List Departure) (it : IsSaid at tears said others) → sets ≡ map (λ (p : Part). set_of (it.choice p)) (parts_of at)
