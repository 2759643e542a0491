-- What follows from records, where each says what the program does (docs/CRASH-MODEL.md, Any number of losses).
use Rattle.std.specs.Prelude.{ℕ, ◌≡◌, ◌≤◌, Bool, true, false, List, ◌++◌, length, map, slice_get, Some}
use Rattle.logfmt.specs.Bounds.{LogValue, IsLog}
use Rattle.epochs.specs.declared.part.By.{By}
use Rattle.epochs.specs.Units.{marks_at}
use Rattle.machine.specs.Outcome.{Ending, fails}
use Rattle.machine.specs.Footprint.{HaveSame}
use Rattle.cases.specs.Risk.{is_last_cut}
use Rattle.cases.specs.Choices.{Choice, image_at}
use Rattle.cases.specs.Cases.{Case, representative}
use Rattle.cases.specs.Laws.{Includes, OfOne, IsChoice}
use Rattle.cases.specs.AtCut.{CutValue, parts_of, case_of}
use Rattle.cases.specs.Search.{LeafValue, leaf_case}
use Rattle.losses.specs.declared.found.Losses.{Losses}
use Rattle.known.specs.declared.run.KnownRun.{KnownRun}
use Rattle.known.specs.declared.found.Stops.{Stops}
use Rattle.known.specs.declared.found.KnownAt.{KnownAt}
use Rattle.known.specs.declared.found.KnownFailing.{KnownFailing}
use Rattle.known.specs.Ends.{ending_of}
use Rattle.known.specs.Records.{RecordsValue, image_of_run, tells}
use Rattle.known.specs.Leaves.{is_told, told_of, open_of, is_complete}
use Rattle.known.specs.Found.{Reached, IsKnownAt, AreKnown}

-- The premise, of a record, where `truth` is how the program ends on an image, by how many marks came before: each image of a log after
-- as many marks as the record's that agrees with the record's image on the sectors at which the program looked ends as the record says.
-- The log is that of the records, or one with flushes that were added to it.
abbrev pub TellsTruth : RecordsValue → LogValue → By → (ℕ → List (List ℕ) → Ending) → KnownRun → Type 0
TellsTruth records log way truth r = (k : ℕ) (choice : Choice) → k ≤ length log.entries → marks_at log.entries k ≡ r.marks
    → HaveSame (image_of_run records.log records.way r) (image_at log way k choice) r.looked.items → truth r.marks (image_at log way k choice) ≡ ending_of r.end

-- of each record
abbrev pub AreTrue : RecordsValue → LogValue → By → (ℕ → List (List ℕ) → Ending) → Type 0
AreTrue records log way truth = (j : ℕ) (r : KnownRun) → slice_get records.runs j ≡ Some r → TellsTruth records log way truth r

-- how the program ends on the image of a choice
abbrev pub truth_at : (ℕ → List (List ℕ) → Ending) → CutValue → Choice → Ending
truth_at truth at choice = truth (marks_at at.log.entries at.cut) (image_at at.log at.way at.cut choice)

-- the cases of some leaves
abbrev pub cases_of : Bool → CutValue → List LeafValue → List Case
cases_of tears at leaves = map (leaf_case tears at) leaves

-- each choice of a cut is in exactly one case that is told, open, left out or pending
abbrev pub EachIsInOne : Type 0
EachIsInOne = (asked : Losses) (at : CutValue) (records : RecordsValue) (stops : Stops) (leaves : List LeafValue) (left waiting : List Case) (choice : Choice)
    → Reached asked at records stops leaves left waiting → IsChoice asked.tears choice
    → OfOne (Includes choice) (cases_of asked.tears at (told_of leaves) ++ (cases_of asked.tears at (open_of leaves) ++ (left ++ waiting)))

-- on the image of each choice in a told leaf the program ends as the leaf says
abbrev pub ToldEndSo : Type 0
ToldEndSo = (asked : Losses) (at : CutValue) (records : RecordsValue) (stops : Stops) (leaves : List LeafValue) (left waiting : List Case)
    (truth : ℕ → List (List ℕ) → Ending) (i : ℕ) (leaf : LeafValue) (choice : Choice) → at.cut ≤ length at.log.entries
    → AreTrue records at.log at.way truth → Reached asked at records stops leaves left waiting
    → slice_get leaves i ≡ Some leaf → is_told leaf ≡ true → Includes choice (leaf_case asked.tears at leaf) → truth_at truth at choice ≡ leaf.ending

-- no record tells the representative of an open case
abbrev pub NoneTellsOpen : Type 0
NoneTellsOpen = (asked : Losses) (at : CutValue) (records : RecordsValue) (stops : Stops) (leaves : List LeafValue) (left waiting : List Case)
    (i j : ℕ) (leaf : LeafValue) (r : KnownRun) → Reached asked at records stops leaves left waiting → slice_get leaves i ≡ Some leaf → is_told leaf ≡ false → slice_get records.runs j ≡ Some r
    → tells records.log records.way (marks_at at.log.entries at.cut) (image_at at.log at.way at.cut (representative (leaf_case asked.tears at leaf))) r ≡ false

-- the case of a told leaf that fails
abbrev pub failing_case : Losses → CutValue → KnownFailing → Case
failing_case asked at f = case_of asked.tears (parts_of at) f.sets.items

-- on the image of each choice of a failing leaf that was found the program ends as the leaf says, and so it fails there
abbrev pub FoundFail : Type 0
FoundFail = (asked : Losses) (at : CutValue) (records : RecordsValue) (stops : Stops) (found : KnownAt) (truth : ℕ → List (List ℕ) → Ending) (n : ℕ) (f : KnownFailing) (choice : Choice)
    → at.cut ≤ length at.log.entries → AreTrue records at.log at.way truth → IsKnownAt asked at records stops found
    → slice_get found.failing.items n ≡ Some f → Includes choice (failing_case asked at f) → (truth_at truth at choice ≡ ending_of f.end) × (fails (ending_of f.end) ≡ true)

-- a choice is in a failing leaf that was found
pub record IsInFailing (asked : Losses) (at : CutValue) (found : KnownAt) (choice : Choice) (ending : Ending) : Type 0 where
  pub number : ℕ
  pub own : KnownFailing
  pub there : slice_get found.failing.items number ≡ Some own
  pub includes : Includes choice (failing_case asked at own)
  pub ends : ending ≡ ending_of own.end

-- of a cut of which nothing is open, left out or pending each choice on whose image the program fails is in a failing leaf that was found
abbrev pub CompleteHasAll : Type 0
CompleteHasAll = (asked : Losses) (at : CutValue) (records : RecordsValue) (stops : Stops) (found : KnownAt) (truth : ℕ → List (List ℕ) → Ending) (choice : Choice)
    → at.cut ≤ length at.log.entries → AreTrue records at.log at.way truth → IsKnownAt asked at records stops found → is_complete found ≡ true
    → IsChoice asked.tears choice → fails (truth_at truth at choice) ≡ true → IsInFailing asked at found choice (truth_at truth at choice)

-- an image of any cut is one of a last cut, and there in a failing leaf that was found
pub record IsInFailingOf (asked : Losses) (log : LogValue) (way : By) (cuts : List ℕ) (found : List KnownAt) (cut : ℕ) (choice : Choice) (ending : Ending) : Type 0 where
  pub place : ℕ
  pub last : ℕ
  pub own : slice_get cuts place ≡ Some last
  pub at_last : KnownAt
  pub there : slice_get found place ≡ Some at_last
  pub other : Choice
  pub image : image_at log way last other ≡ image_at log way cut choice
  pub in_leaf : IsInFailing asked (record { log = log; way = way; cut = last }) at_last other ending

-- Where each last cut is among some cuts, and nothing is open, left out or pending at any of these, each image of any cut on which the
-- program fails is one of a failing leaf that was found.
abbrev pub LastCutsHaveAll : Type 0
LastCutsHaveAll = (asked : Losses) (log : LogValue) (way : By) (cuts : List ℕ) (records : RecordsValue) (stops : Stops) (found : List KnownAt) (truth : ℕ → List (List ℕ) → Ending) (cut : ℕ) (choice : Choice)
    → IsLog log → AreTrue records log way truth → AreKnown asked log way cuts records stops found
    → ((last : ℕ) → last ≤ length log.entries → is_last_cut log.entries last ≡ true → (place : ℕ) × (slice_get cuts place ≡ Some last))
    → ((i : ℕ) (f : KnownAt) → slice_get found i ≡ Some f → is_complete f ≡ true) → cut ≤ length log.entries → IsChoice asked.tears choice
    → fails (truth (marks_at log.entries cut) (image_at log way cut choice)) ≡ true
    → IsInFailingOf asked log way cuts found cut choice (truth (marks_at log.entries cut) (image_at log way cut choice))
