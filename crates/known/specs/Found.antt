-- What records tell of the cases of some cuts.
use Rattle.std.specs.Prelude.{ℕ, ◌≡◌, ◌+◌, ◌<◌, ◌≤◌, ◌==◌, ◌⊎◌, true, false, not, List, [], ◌∷◌, ◌++◌, length, map, take, count_by, slice_get, None, Some, All, sum_by}
use Rattle.logfmt.specs.Bounds.{LogValue}
use Rattle.epochs.specs.declared.part.By.{By}
use Rattle.epochs.specs.Units.{marks_at}
use Rattle.cases.specs.Cases.{Case, whole_case}
use Rattle.cases.specs.Trees.{Subject, is_within, split_of}
use Rattle.cases.specs.AtCut.{CutValue}
use Rattle.cases.specs.Search.{SearchValue, LeafValue, SameSearch, Ran, LeadTo, leaf_case, EndsSo, is_torn_beyond, plus, pending, subject_of}
use Rattle.cases.specs.Trees.{Program}
use Rattle.losses.specs.declared.found.Losses.{Losses}
use Rattle.losses.specs.FoundCases.{most_cases}
use Rattle.case_runs.specs.Leaves.{failing_from}
use Rattle.case_runs.specs.declared.found.SearchFault.{SearchFault}
use Rattle.case_runs.specs.declared.found.SearchFault.TheVariants as fault
use Rattle.known.specs.declared.found.Stops.{Stops}
use Rattle.known.specs.declared.found.KnownAt.{KnownAt}
use Rattle.known.specs.Records.{RecordsValue, program_of}
use Rattle.known.specs.Leaves.{told_of, open_of, has_stopped, failing_value, open_sets, sets_of_leaf}

-- A cut and records, with what is asked. The records may be of another log, as of one without the flushes that were added to it.
abbrev pub subject_at : Losses → CutValue → RecordsValue → Subject
subject_at asked at records = record {
  log = at.log;
  way = at.way;
  cut = at.cut;
  program = program_of records (marks_at at.log.entries at.cut);
  torn = asked.torn;
  lost = asked.lost;
}

-- the search doesn't end before the last of some leaves
abbrev pub GoesOn : Stops → List LeafValue → Type 0
GoesOn stops leaves = (n : ℕ) → n < length leaves → has_stopped stops (take n leaves) ≡ false

-- The search of a cut came to some leaves, told and open, and left some cases out. Others are waiting: they are pending.
pub record Reached (asked : Losses) (at : CutValue) (records : RecordsValue) (stops : Stops) (leaves : List LeafValue) (left waiting : List Case) : Type 0 where
  pub leads : LeadTo (subject_at asked at records) waiting (whole_case asked.tears ∷ []) (map (leaf_case asked.tears at) leaves) left
  pub endings : All (EndsSo (subject_at asked at records) asked.tears at) leaves
  pub on : GoesOn stops leaves

-- a search comes to the last of some leaves and goes no further: what it left out comes before, and what comes after is waiting
pub record StopsAtLeaf (s : Subject) (from leaves left waiting : List Case) : Type 0 where
  pub front : List Case
  pub last : Case
  pub are : leaves ≡ front ++ last ∷ []
  pub leads : LeadTo s (last ∷ waiting) from front left
  pub within : is_within s last ≡ true
  pub whole : split_of s last ≡ None

-- the same of one that didn't begin
abbrev pub StopsRight : Subject → List Case → List Case → List Case → List Case → Type 0
StopsRight s from leaves left waiting = ((leaves ≡ []) × (left ≡ []) × (waiting ≡ from)) ⊎ StopsAtLeaf s from leaves left waiting

-- At a cut: the told leaves that fail, each with its number among the told ones, how many these are, the open cases, each in the order of
-- the tree, and how many cases were left out. The search ended where there are no more cases, or right after the leaf where it was to stop. It
-- was stopped where cases are waiting.
pub record IsKnownAt (asked : Losses) (at : CutValue) (records : RecordsValue) (stops : Stops) (found : KnownAt) : Type 0 where
  pub leaves : List LeafValue
  pub left : List Case
  pub waiting : List Case
  pub reached : Reached asked at records stops leaves left waiting
  pub ended : (waiting ≡ []) ⊎ (has_stopped stops leaves ≡ true)
  pub right : has_stopped stops leaves ≡ true → StopsRight (subject_at asked at records) (whole_case asked.tears ∷ []) (map (leaf_case asked.tears at) leaves) left waiting
  pub cut : found.cut ≡ at.cut
  pub told : found.told ≡ length (told_of leaves)
  pub failing : map failing_value found.failing.items ≡ failing_from 0 (told_of leaves)
  pub are_open : map open_sets found.open_cases.items ≡ map sets_of_leaf (open_of leaves)
  pub torn : found.torn_beyond ≡ plus 0 (count_by (is_torn_beyond (subject_at asked at records)) left)
  pub lost : found.lost_beyond ≡ plus 0 (count_by (λ c. not (is_torn_beyond (subject_at asked at records) c)) left)
  pub stopped : found.stopped ≡ not (length waiting == 0)

-- how many told leaves and open cases there are, at a cut and at some
abbrev pub cases_at : KnownAt → ℕ
cases_at found = found.told + length found.open_cases.items

abbrev pub cases_in : List KnownAt → ℕ
cases_in found = sum_by cases_at found

-- at each of the first n of some cuts, in order
pub record AreFirstKnown (asked : Losses) (log : LogValue) (way : By) (cuts : List ℕ) (records : RecordsValue) (stops : Stops) (n : ℕ) (found : List KnownAt) : Type 0 where
  pub count : length found ≡ n
  pub each : (i k : ℕ) (f : KnownAt) → slice_get cuts i ≡ Some k → slice_get found i ≡ Some f → IsKnownAt asked (record { log = log; way = way; cut = k }) records stops f

-- at each of some cuts, in order
abbrev pub AreKnown : Losses → LogValue → By → List ℕ → RecordsValue → Stops → List KnownAt → Type 0
AreKnown asked log way cuts records stops found = AreFirstKnown asked log way cuts records stops (length cuts) found

-- at a cut the search comes to more than `most` leaves
pub record IsPast (asked : Losses) (at : CutValue) (records : RecordsValue) (stops : Stops) (most : ℕ) : Type 0 where
  pub leaves : List LeafValue
  pub left : List Case
  pub waiting : List Case
  pub reached : Reached asked at records stops leaves left waiting
  pub past : most < length leaves

-- there are more than `most_cases` at some cuts: at those before this one as many as are found, and at this one more than are left
pub record AreTooMany (asked : Losses) (log : LogValue) (way : By) (cuts : List ℕ) (records : RecordsValue) (stops : Stops) (cut : ℕ) : Type 0 where
  pub place : ℕ
  pub own : slice_get cuts place ≡ Some cut
  pub before : List KnownAt
  pub are : AreFirstKnown asked log way cuts records stops place before
  pub rest : ℕ
  pub counted : most_cases ≡ rest + cases_in before
  pub past : IsPast asked (record { log = log; way = way; cut = cut }) records stops rest

-- why nothing was found: for memory, or there are too many
abbrev pub StopsAt : Losses → CutValue → RecordsValue → Stops → ℕ → SearchFault → Type 0
StopsAt asked at records stops left fault.Memory = Unit {0}
StopsAt asked at records stops left (fault.TooMany cut) = (cut ≡ at.cut) × IsPast asked at records stops left

abbrev pub StopsIn : Losses → LogValue → By → List ℕ → RecordsValue → Stops → SearchFault → Type 0
StopsIn asked log way cuts records stops fault.Memory = Unit {0}
StopsIn asked log way cuts records stops (fault.TooMany cut) = AreTooMany asked log way cuts records stops cut

-- a search came to the last of some leaves from some cases, and no further, and counted the cases that it left out, from two numbers on
pub record CameRight (s : Subject) (case_of_leaf : LeafValue → Case) (from : List Case) (first second : ℕ) (new : SearchValue) (leaves : List LeafValue) : Type 0 where
  pub left : List Case
  pub leads : LeadTo s (pending new) from (map case_of_leaf leaves) left
  pub right : StopsRight s from (map case_of_leaf leaves) left (pending new)
  pub torn : new.torn_beyond ≡ plus first (count_by (is_torn_beyond s) left)
  pub lost : new.lost_beyond ≡ plus second (count_by (λ c. not (is_torn_beyond s c)) left)

abbrev pub WentRight : Program → SearchValue → SearchValue → List LeafValue → Type 0
WentRight program old new leaves =
    CameRight (subject_of old.asked program) (leaf_case old.tears old.asked.at) (pending old) old.torn_beyond old.lost_beyond new leaves

-- a search that a judge was told of went on to its end, or to where it was to stop, or to `most` leaves
pub record WentOn (program : Program) (stops : Stops) (old new : SearchValue) (leaves : List LeafValue) (most : ℕ) : Type 0 where
  pub same : SameSearch old new
  pub ran : Ran (subject_of old.asked program) old new [] leaves
  pub few : length leaves ≤ most
  pub on : GoesOn stops leaves
  pub ended : length leaves < most → (pending new ≡ []) ⊎ (has_stopped stops leaves ≡ true)
  pub right : length leaves < most → has_stopped stops leaves ≡ true → WentRight program old new leaves
