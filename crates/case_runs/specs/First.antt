-- The first failing case of some cuts with some checkers: by cut, by checker, and in the order of the tree.
use Rattle.std.specs.Prelude.{ℕ, ◌≡◌, ◌+◌, ◌<◌, ◌≤◌, List, [], ◌∷◌, ◌++◌, map, slice_get, Some, All}
use Rattle.logfmt.specs.Bounds.{LogValue}
use Rattle.epochs.specs.declared.part.By.{By}
use Rattle.checker.specs.Checker.{CheckerValue}
use Rattle.cases.specs.AtCut.{CutValue}
use Rattle.cases.specs.Search.{LeafValue, BegunCases}
use Rattle.losses.specs.declared.found.Losses.{Losses}
use Rattle.losses.specs.declared.found.CaseFindings.{CaseFindings}
use Rattle.losses.specs.declared.found.CutFound.{CutFound}
use Rattle.case_runs.specs.declared.found.SearchFault.{SearchFault}
use Rattle.case_runs.specs.declared.found.SearchFault.TheVariants as fault
use Rattle.losses.specs.declared.found.FirstCase.{FirstCase}
use Rattle.case_runs.specs.declared.first.Sought.{Sought}
use Rattle.case_runs.specs.declared.first.Sought.TheVariants as sought
use Rattle.losses.specs.declared.found.FailingCase.{FailingCase}
use Rattle.losses.specs.FoundCases.{failing_value, cases_at, cases_in, most_cases}
use Rattle.case_runs.specs.Leaves.{failing_from}
use Rattle.case_runs.specs.Laws.{subject_at}
use Rattle.case_runs.specs.Found.{IsFoundAt, AreFoundIn, AreFirstAt, AreFirstIn, KnownCase, known_case}

-- no case fails, of those that were found at a cut, and at some cuts
abbrev pub NoneFailsAt : List CaseFindings → Type 0
NoneFailsAt found = All (λ (f : CaseFindings). f.failing.items ≡ []) found

abbrev pub NoneFails : List CutFound → Type 0
NoneFails found = All (λ (c : CutFound). NoneFailsAt c.programs.items) found

-- of the first leaves of a cut, in the order of the tree, the last one alone fails with a checker
pub record FailsFirst (asked : Losses) (at : CutValue) (checker : CheckerValue) (f : FailingCase) : Type 0 where
  pub leaves : List LeafValue
  pub those : BegunCases (subject_at at.log at.way at.cut checker asked.torn asked.lost) asked.tears at [] leaves (f.number + 1)
  pub failing : failing_from 0 leaves ≡ failing_value f ∷ []

-- the first `most` leaves of a cut pass with a checker, and there is one more
pub record PassesMost (asked : Losses) (at : CutValue) (checker : CheckerValue) (most : ℕ) : Type 0 where
  pub leaves : List LeafValue
  pub last : LeafValue
  pub those : BegunCases (subject_at at.log at.way at.cut checker asked.torn asked.lost) asked.tears at [] (leaves ++ last ∷ []) (most + 1)
  pub passing : failing_from 0 leaves ≡ []

-- the first failing case at a cut, within the first `left` cases there: with the checkers before its own no case fails
pub record FailsFirstAt (asked : Losses) (at : CutValue) (checkers : List CheckerValue) (left : ℕ) (first : FirstCase) : Type 0 where
  pub before : List CaseFindings
  pub are : AreFirstAt asked at checkers first.program before
  pub none : NoneFailsAt before
  pub checker : CheckerValue
  pub own : slice_get checkers first.program ≡ Some checker
  pub rest : ℕ
  pub counted : left ≡ rest + cases_at before
  pub fails : FailsFirst asked at checker first.case
  pub few : first.case.number < rest

-- the first `left` cases at a cut pass, and there is one more
pub record PassesMostAt (asked : Losses) (at : CutValue) (checkers : List CheckerValue) (left : ℕ) : Type 0 where
  pub number : ℕ
  pub before : List CaseFindings
  pub are : AreFirstAt asked at checkers number before
  pub none : NoneFailsAt before
  pub checker : CheckerValue
  pub own : slice_get checkers number ≡ Some checker
  pub rest : ℕ
  pub counted : left ≡ rest + cases_at before
  pub past : PassesMost asked at checker rest

-- The first failing case of some cuts, within the first `most_cases` cases: at the cuts before its own no case fails.
pub record IsFirstFailing (asked : Losses) (log : LogValue) (way : By) (cuts : List ℕ) (checkers : List CheckerValue) (first : FirstCase) : Type 0 where
  pub place : ℕ
  pub own : slice_get cuts place ≡ Some first.cut
  pub before : List CutFound
  pub are : AreFirstIn asked log way cuts checkers place before
  pub none : NoneFails before
  pub rest : ℕ
  pub counted : most_cases ≡ rest + cases_in before
  pub fails : FailsFirstAt asked (record { log = log; way = way; cut = first.cut }) checkers rest first

-- the first `most_cases` cases of some cuts pass, and there is one more, at this cut
pub record PassesMostIn (asked : Losses) (log : LogValue) (way : By) (cuts : List ℕ) (checkers : List CheckerValue) (cut : ℕ) : Type 0 where
  pub place : ℕ
  pub own : slice_get cuts place ≡ Some cut
  pub before : List CutFound
  pub are : AreFirstIn asked log way cuts checkers place before
  pub none : NoneFails before
  pub rest : ℕ
  pub counted : most_cases ≡ rest + cases_in before
  pub past : PassesMostAt asked (record { log = log; way = way; cut = cut }) checkers rest

-- all cases of some cuts, of which none fails
pub record AllPass (asked : Losses) (log : LogValue) (way : By) (cuts : List ℕ) (checkers : List CheckerValue) (found : List CutFound) : Type 0 where
  pub are : AreFoundIn asked log way cuts checkers found
  pub none : NoneFails found
  pub few : cases_in found ≤ most_cases

-- what is found where the first failing case of some cuts is looked for: it, or all cases, of which none fails
abbrev pub IsSought : Losses → LogValue → By → List ℕ → List CheckerValue → Sought → Type 0
IsSought asked log way cuts checkers (sought.Passing found) = AllPass asked log way cuts checkers found.items
IsSought asked log way cuts checkers (sought.Failing first) = IsFirstFailing asked log way cuts checkers first

-- why it wasn't found: for memory, or there are too many before it
abbrev pub EndsIn : Losses → LogValue → By → List ℕ → List CheckerValue → SearchFault → Type 0
EndsIn asked log way cuts checkers fault.Memory = Unit {0}
EndsIn asked log way cuts checkers (fault.TooMany cut) = PassesMostIn asked log way cuts checkers cut

-- At a cut with a checker one case fails first, and it is the first of those that fail there. It doesn't stand among leaves that pass.
pub record FirstIsOne : Type 0 where
  pub same : (asked : Losses) (at : CutValue) (checker : CheckerValue) (f g : FailingCase) → FailsFirst asked at checker f → FailsFirst asked at checker g
      → known_case at asked.tears f ≡ known_case at asked.tears g
  pub found : (asked : Losses) (at : CutValue) (checker : CheckerValue) (f : FailingCase) (found : CaseFindings) → FailsFirst asked at checker f → IsFoundAt asked at checker found
      → (rest : List KnownCase) × (map (known_case at asked.tears) found.failing.items ≡ known_case at asked.tears f ∷ rest)
  pub after : (asked : Losses) (at : CutValue) (checker : CheckerValue) (f : FailingCase) (most : ℕ) → FailsFirst asked at checker f → PassesMost asked at checker most → most ≤ f.number
