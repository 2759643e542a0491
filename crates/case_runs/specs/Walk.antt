-- What a walk over cuts and checkers meets: all cases, or, where the first failing one alone is looked for, no case after it.
use Rattle.std.specs.Prelude.{ℕ, ◌≡◌, ◌+◌, ◌<◌, ◌≤◌, ◌⊎◌, Bool, IsTrue, List, [], ◌∷◌, ◌++◌, length}
use Rattle.checker.specs.Checker.{CheckerValue}
use Rattle.cases.specs.AtCut.{CutValue}
use Rattle.cases.specs.Trees.{Program}
use Rattle.cases.specs.Search.{SearchValue, LeafValue, SameSearch, Ran, subject_of, pending}
use Rattle.losses.specs.declared.found.Losses.{Losses}
use Rattle.losses.specs.FoundCases.{cases_at}
use Rattle.case_runs.specs.declared.found.SearchFault.{SearchFault}
use Rattle.case_runs.specs.declared.found.SearchFault.TheVariants as fault
use Rattle.case_runs.specs.declared.walk.Met.{Met}
use Rattle.case_runs.specs.declared.walk.Met.TheVariants as met
use Rattle.case_runs.specs.declared.walk.MetAt.{MetAt}
use Rattle.case_runs.specs.declared.walk.MetAt.TheVariants as met_at
use Rattle.case_runs.specs.Leaves.{failing_from}
use Rattle.case_runs.specs.Found.{IsFoundAt, AreFoundAt}
use Rattle.case_runs.specs.First.{NoneFailsAt, FailsFirst, PassesMost, FailsFirstAt, PassesMostAt}

-- of some leaves all before the last one pass
pub record PassToLast (leaves : List LeafValue) : Type 0 where
  pub before : List LeafValue
  pub last : LeafValue
  pub are : leaves ≡ before ++ last ∷ []
  pub passing : failing_from 0 before ≡ []

-- a search that a judge was told of went to the first leaf on which a program fails, or to `most` leaves, or to its end
pub record SeeksTo (program : Program) (old new : SearchValue) (leaves : List LeafValue) (most : ℕ) : Type 0 where
  pub same : SameSearch old new
  pub ran : Ran (subject_of old.asked program) old new [] leaves
  pub few : length leaves ≤ most
  pub passing : (failing_from 0 leaves ≡ []) ⊎ PassToLast leaves
  pub ended : length leaves < most → failing_from 0 leaves ≡ [] → pending new ≡ []

-- what is met at a cut with a checker, of which `left` cases may be met
abbrev pub MeetsOne : Bool → Losses → CutValue → CheckerValue → ℕ → Met → Type 0
MeetsOne first asked at checker left (met.All found) = IsFoundAt asked at checker found × (IsTrue first → found.failing.items ≡ []) × (found.cases ≤ left)
MeetsOne first asked at checker left (met.First f) = IsTrue first × FailsFirst asked at checker f × (f.number < left)

-- what is met at a cut with some checkers
abbrev pub MeetsAt : Bool → Losses → CutValue → List CheckerValue → ℕ → MetAt → Type 0
MeetsAt first asked at checkers left (met_at.All found) = (found.cut ≡ at.cut) × AreFoundAt asked at checkers found.programs.items × (IsTrue first → NoneFailsAt found.programs.items)
MeetsAt first asked at checkers left (met_at.First f) = IsTrue first × (f.cut ≡ at.cut) × FailsFirstAt asked at checkers left f

-- how many cases may still be met after it
abbrev pub TakesAt : ℕ → ℕ → MetAt → Type 0
TakesAt left now (met_at.All found) = left ≡ now + cases_at found.programs.items
TakesAt left now (met_at.First f) = Unit {0}

-- why the first failing case wasn't met: for memory, or there are too many before it
abbrev pub EndsAtOne : Losses → CutValue → CheckerValue → ℕ → SearchFault → Type 0
EndsAtOne asked at checker left fault.Memory = Unit {0}
EndsAtOne asked at checker left (fault.TooMany cut) = (cut ≡ at.cut) × PassesMost asked at checker left

abbrev pub EndsAt : Losses → CutValue → List CheckerValue → ℕ → SearchFault → Type 0
EndsAt asked at checkers left fault.Memory = Unit {0}
EndsAt asked at checkers left (fault.TooMany cut) = (cut ≡ at.cut) × PassesMostAt asked at checkers left
