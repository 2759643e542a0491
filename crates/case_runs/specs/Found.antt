-- What is found at some cuts with some checkers.
use Rattle.std.specs.Prelude.{ℕ, ◌≡◌, ◌+◌, ◌<◌, ◌≤◌, Bool, true, List, [], length, map, slice_get, Some}
use Rattle.logfmt.specs.Bounds.{LogValue, IsLog}
use Rattle.epochs.specs.declared.part.By.{By}
use Rattle.machine.specs.Outcome.{Ending, fails}
use Rattle.interp.specs.Ending.{ending_of}
use Rattle.checker.specs.Checker.{CheckerValue}
use Rattle.cases.specs.Choices.{Choice}
use Rattle.cases.specs.Cases.{Case}
use Rattle.cases.specs.Laws.{Includes}
use Rattle.cases.specs.AtCut.{CutValue, parts_of, case_of}
use Rattle.cases.specs.Search.{LeafValue, FoundCases, BegunCases}
use Rattle.losses.specs.declared.found.Losses.{Losses}
use Rattle.losses.specs.declared.found.CaseFindings.{CaseFindings}
use Rattle.losses.specs.declared.found.CutFound.{CutFound}
use Rattle.case_runs.specs.declared.found.SearchFault.{SearchFault}
use Rattle.case_runs.specs.declared.found.SearchFault.TheVariants as fault
use Rattle.losses.specs.declared.found.FailingCase.{FailingCase}
use Rattle.losses.specs.FoundCases.{failing_value, most_cases, cases_at, cases_in}
use Rattle.case_runs.specs.Leaves.{failing_from}
use Rattle.case_runs.specs.Laws.{subject_at, judged_at}

-- At a cut with a checker: of exactly its leaves, in the order of the tree, those that fail, by their numbers, and how many leaves there
-- are, and cases that were left out.
pub record IsFoundAt (asked : Losses) (at : CutValue) (checker : CheckerValue) (found : CaseFindings) : Type 0 where
  pub leaves : List LeafValue
  pub those : FoundCases (subject_at at.log at.way at.cut checker asked.torn asked.lost) asked.tears at [] leaves found.torn_beyond found.lost_beyond
  pub cases : found.cases ≡ length leaves
  pub failing : map failing_value found.failing.items ≡ failing_from 0 leaves

-- there are that many leaves at a cut with a checker, and others may follow
pub record IsBegunAt (asked : Losses) (at : CutValue) (checker : CheckerValue) (most : ℕ) : Type 0 where
  pub leaves : List LeafValue
  pub those : BegunCases (subject_at at.log at.way at.cut checker asked.torn asked.lost) asked.tears at [] leaves most

-- at a cut, with each of some checkers, in order
pub record AreFoundAt (asked : Losses) (at : CutValue) (checkers : List CheckerValue) (found : List CaseFindings) : Type 0 where
  pub count : length found ≡ length checkers
  pub each : (i : ℕ) (c : CheckerValue) (f : CaseFindings) → slice_get checkers i ≡ Some c → slice_get found i ≡ Some f → IsFoundAt asked at c f

-- at each of some cuts, in order
pub record AreFoundIn (asked : Losses) (log : LogValue) (way : By) (cuts : List ℕ) (checkers : List CheckerValue) (found : List CutFound) : Type 0 where
  pub count : length found ≡ length cuts
  pub cut : (i k : ℕ) (f : CutFound) → slice_get cuts i ≡ Some k → slice_get found i ≡ Some f → f.cut ≡ k
  pub each : (i k : ℕ) (f : CutFound) → slice_get cuts i ≡ Some k → slice_get found i ≡ Some f
      → AreFoundAt asked (record { log = log; way = way; cut = k }) checkers f.programs.items

-- at a cut, with each of the first n of some checkers, in order
pub record AreFirstAt (asked : Losses) (at : CutValue) (checkers : List CheckerValue) (n : ℕ) (found : List CaseFindings) : Type 0 where
  pub count : length found ≡ n
  pub each : (i : ℕ) (c : CheckerValue) (f : CaseFindings) → slice_get checkers i ≡ Some c → slice_get found i ≡ Some f → IsFoundAt asked at c f

-- at each of the first n of some cuts, in order
pub record AreFirstIn (asked : Losses) (log : LogValue) (way : By) (cuts : List ℕ) (checkers : List CheckerValue) (n : ℕ) (found : List CutFound) : Type 0 where
  pub count : length found ≡ n
  pub cut : (i k : ℕ) (f : CutFound) → slice_get cuts i ≡ Some k → slice_get found i ≡ Some f → f.cut ≡ k
  pub each : (i k : ℕ) (f : CutFound) → slice_get cuts i ≡ Some k → slice_get found i ≡ Some f
      → AreFoundAt asked (record { log = log; way = way; cut = k }) checkers f.programs.items

-- there are more than that many cases at a cut with a checker
pub record IsPastOne (asked : Losses) (at : CutValue) (checker : CheckerValue) (left : ℕ) : Type 0 where
  pub more : ℕ
  pub begun : IsBegunAt asked at checker more
  pub past : left < more

-- there are more than that many at a cut with some checkers: with those before one as many as are found, and with that one more than are left
pub record IsPastAt (asked : Losses) (at : CutValue) (checkers : List CheckerValue) (left : ℕ) : Type 0 where
  pub number : ℕ
  pub before : List CaseFindings
  pub are : AreFirstAt asked at checkers number before
  pub checker : CheckerValue
  pub own : slice_get checkers number ≡ Some checker
  pub rest : ℕ
  pub counted : left ≡ rest + cases_at before
  pub past : IsPastOne asked at checker rest

-- there are more than `most_cases` at some cuts: at those before this one as many as are found, and at this one more than are left
pub record AreTooMany (asked : Losses) (log : LogValue) (way : By) (cuts : List ℕ) (checkers : List CheckerValue) (cut : ℕ) : Type 0 where
  pub place : ℕ
  pub own : slice_get cuts place ≡ Some cut
  pub before : List CutFound
  pub are : AreFirstIn asked log way cuts checkers place before
  pub rest : ℕ
  pub counted : most_cases ≡ rest + cases_in before
  pub past : IsPastAt asked (record { log = log; way = way; cut = cut }) checkers rest

-- why cases weren't found: for memory, or there are too many
abbrev pub StopsAtOne : Losses → CutValue → CheckerValue → ℕ → SearchFault → Type 0
StopsAtOne asked at checker left fault.Memory = Unit {0}
StopsAtOne asked at checker left (fault.TooMany cut) = (cut ≡ at.cut) × IsPastOne asked at checker left

abbrev pub StopsAt : Losses → CutValue → List CheckerValue → ℕ → SearchFault → Type 0
StopsAt asked at checkers left fault.Memory = Unit {0}
StopsAt asked at checkers left (fault.TooMany cut) = (cut ≡ at.cut) × IsPastAt asked at checkers left

abbrev pub StopsIn : Losses → LogValue → By → List ℕ → List CheckerValue → SearchFault → Type 0
StopsIn asked log way cuts checkers fault.Memory = Unit {0}
StopsIn asked log way cuts checkers (fault.TooMany cut) = AreTooMany asked log way cuts checkers cut

-- a failing case by what it says of each part
pub record KnownCase : Type 0 where
  pub number : ℕ
  pub ending : Ending
  pub is : Case

abbrev pub known_case : CutValue → Bool → FailingCase → KnownCase
known_case at tears f = record { number = f.number; ending = ending_of f.outcome; is = case_of tears (parts_of at) f.sets.items }

-- the same was found twice
pub record SameFound (at : CutValue) (tears : Bool) (found other : CaseFindings) : Type 0 where
  pub cases : found.cases ≡ other.cases
  pub torn : found.torn_beyond ≡ other.torn_beyond
  pub lost : found.lost_beyond ≡ other.lost_beyond
  pub failing : map (known_case at tears) found.failing.items ≡ map (known_case at tears) other.failing.items

-- at a cut with a checker one thing is found, and where it is told of cases that there are more, there are as many
pub record FindingIsOne : Type 0 where
  pub same : (asked : Losses) (at : CutValue) (checker : CheckerValue) (found other : CaseFindings) → IsFoundAt asked at checker found → IsFoundAt asked at checker other
      → SameFound at asked.tears found other
  pub fewer : (asked : Losses) (at : CutValue) (checker : CheckerValue) (found : CaseFindings) (most : ℕ) → IsFoundAt asked at checker found → IsBegunAt asked at checker most
      → most ≤ found.cases

-- on each image of a failing case that was found the checker ends as the case says, and so it fails there
abbrev pub TheirImagesFail : Type 0
TheirImagesFail = (asked : Losses) (log : LogValue) (way : By) (cuts : List ℕ) (checkers : List CheckerValue) (found : List CutFound)
    → IsLog log → AreFoundIn asked log way cuts checkers found
    → (i j n k : ℕ) (f : CutFound) (checker : CheckerValue) (own : CaseFindings) (it : FailingCase) (choice : Choice) → k ≤ length log.entries
    → slice_get cuts i ≡ Some k → slice_get found i ≡ Some f → slice_get checkers j ≡ Some checker → slice_get f.programs.items j ≡ Some own → slice_get own.failing.items n ≡ Some it
    → Includes choice (case_of asked.tears (parts_of (record { log = log; way = way; cut = k })) it.sets.items)
    → (judged_at log way k checker choice ≡ ending_of it.outcome) × (fails (ending_of it.outcome) ≡ true)
