-- What was found so far at a cut with a checker: pieces of its tree, in order.
use Rattle.std.specs.Prelude.{ℕ, ◌≡◌, ◌+◌, ◌-◌, ◌^◌, ◌<◌, ◌≤◌, min, Bool, true, false, not, if◌then◌else◌, List, [], ◌∷◌, ◌++◌, length, map, count_by, All}
use Rattle.std.specs.Global.{Vec}
use Rattle.checker.specs.Checker.{CheckerValue}
use Rattle.cases.specs.Cases.{Case, whole_case}
use Rattle.cases.specs.AtCut.{CutValue, parts_of, case_of}
use Rattle.cases.specs.Trees.{Subject}
use Rattle.cases.specs.Search.{SearchValue, LeadTo, LeafValue, leaf_case, EndsSo, is_torn_beyond, plus}
use Rattle.losses.specs.declared.found.Losses.{Losses}
use Rattle.losses.specs.declared.found.CaseFindings.{CaseFindings}
use Rattle.case_runs.specs.declared.pieces.Start.{Start}
use Rattle.case_runs.specs.declared.pieces.Subtree.{Subtree}
use Rattle.case_runs.specs.declared.pieces.Subtree.TheVariants as piece
use Rattle.case_runs.specs.declared.pieces.Ran.{Ran}
use Rattle.losses.specs.FoundCases.{FailingValue, failing_value}
use Rattle.case_runs.specs.Leaves.{failing_from}
use Rattle.case_runs.specs.Laws.{subject_at}

abbrev pub subject_in : Losses → CutValue → CheckerValue → Subject
subject_in asked at checker = subject_at at.log at.way at.cut checker asked.torn asked.lost

-- a search of a cut, with what is asked
pub record IsSearchOf (asked : Losses) (at : CutValue) (v : SearchValue) : Type 0 where
  pub asked_is : v.asked ≡ record { at = at; torn = asked.torn; lost = asked.lost }
  pub tears_is : v.tears ≡ asked.tears

-- where a search begins
abbrev pub start_case : Bool → CutValue → Start → Case
start_case tears at start = if start.whole then whole_case tears else case_of tears (parts_of at) start.sets.items

abbrev pub IsStart : CutValue → Start → Type 0
IsStart at start = start.whole ≡ false → length start.sets.items ≡ length (parts_of at)

-- the leaves from some cases up to others: those of them that fail, by their numbers, and how many leaves there are, and cases that were
-- left out
pub record IsStretch (s : Subject) (tears : Bool) (at : CutValue) (from : List Case) (found : CaseFindings) (to : List Case) : Type 0 where
  pub leaves : List LeafValue
  pub left : List Case
  pub leads : LeadTo s to from (map (leaf_case tears at) leaves) left
  pub endings : All (EndsSo s tears at) leaves
  pub cases : found.cases ≡ length leaves
  pub torn : found.torn_beyond ≡ plus 0 (count_by (is_torn_beyond s) left)
  pub lost : found.lost_beyond ≡ plus 0 (count_by (λ c. not (is_torn_beyond s c)) left)
  pub failing : map failing_value found.failing.items ≡ failing_from 0 leaves

-- what pieces have of the tree below some cases: in order, leaves that were found, and cases that are still to be explored
abbrev pub ArePieces : Subject → Bool → CutValue → List Subtree → List Case → Type 0
ArePieces s tears at [] from = from ≡ []
ArePieces s tears at (piece.Told found ∷ pieces) from = (to : List Case) × IsStretch s tears at from found to × ArePieces s tears at pieces to
ArePieces s tears at (piece.Open start ∷ pieces) from = (rest : List Case) × (from ≡ start_case tears at start ∷ rest) × IsStart at start × ArePieces s tears at pieces rest

abbrev pub told_as : CaseFindings → Subtree
told_as found = piece.Told found

abbrev pub open_as : Start → Subtree
open_as start = piece.Open start

-- a case that is still to be explored
abbrev pub open_at : Vec ℕ → Subtree
open_at sets = piece.Open (record { whole = false; sets = sets })

-- where an open piece begins
abbrev pub StartsSo : CutValue → Subtree → Type 0
StartsSo at (piece.Told found) = Unit {0}
StartsSo at (piece.Open start) = IsStart at start

-- what a run from some cases to others found, where it stops after `most` leaves
pub record RanFrom (asked : Losses) (at : CutValue) (checker : CheckerValue) (most : ℕ) (from : List Case) (ran : Ran) : Type 0 where
  pub stretch : IsStretch (subject_in asked at checker) asked.tears at from ran.found (map (λ sets. case_of asked.tears (parts_of at) sets.items) ran.left.items)
  pub each : All (λ sets. length sets.items ≡ length (parts_of at)) ran.left.items
  pub ended : ran.found.cases < most → ran.left.items ≡ []

-- a piece, and what was found of it before the next ones
pub record StepsTo (s : Subject) (tears : Bool) (at : CutValue) (pieces : List Subtree) (from : List Case) (found : CaseFindings) (most : ℕ) : Type 0 where
  pub to : List Case
  pub stretch : IsStretch s tears at from found to
  pub rest : found.cases < most → ArePieces s tears at pieces to

pub record IsStep (s : Subject) (tears : Bool) (at : CutValue) (it : Subtree) (found : CaseFindings) (most : ℕ) : Type 0 where
  pub step : (pieces : List Subtree) (from : List Case) → ArePieces s tears at (it ∷ pieces) from → StepsTo s tears at pieces from found most

-- a failing case that comes after other leaves
abbrev pub later : ℕ → FailingValue → FailingValue
later leaves f = record { number = leaves + f.number; ending = f.ending; sets = f.sets }

-- what was found and what was found after it, put together
pub record IsJoined (old more new : CaseFindings) : Type 0 where
  pub cases : new.cases ≡ old.cases + more.cases
  pub torn : new.torn_beyond ≡ min (old.torn_beyond + more.torn_beyond) (2 ^ 64 - 1)
  pub lost : new.lost_beyond ≡ min (old.lost_beyond + more.lost_beyond) (2 ^ 64 - 1)
  pub failing : map failing_value new.failing.items ≡ map failing_value old.failing.items ++ map (later old.cases) (map failing_value more.failing.items)

-- it is put together where there are no more leaves than that
abbrev pub JoinsSo : CaseFindings → CaseFindings → ℕ → CaseFindings → Bool → Type 0
JoinsSo old more left new true = IsJoined old more new × (old.cases + more.cases ≤ left)
JoinsSo old more left new false = left < old.cases + more.cases
