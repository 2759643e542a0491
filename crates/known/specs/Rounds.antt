-- Rounds: records of all that is wanted are appended, and the search is made again (docs/OUTPUT.md, Records of a program of yours).
use Rattle.std.specs.Prelude.{ℕ, suc, ◌≡◌, ◌+◌, ◌*◌, ◌≤◌, true, if◌then◌else◌, List, [], ◌++◌, length, slice_get, Some}
use Rattle.logfmt.specs.Bounds.{LogValue}
use Rattle.epochs.specs.declared.part.By.{By}
use Rattle.epochs.specs.Units.{marks_at}
use Rattle.cases.specs.Laws.{IsAmong}
use Rattle.cases.specs.AtCut.{CutValue, parts_of, case_of, image_of}
use Rattle.losses.specs.declared.found.Losses.{Losses}
use Rattle.known.specs.declared.run.KnownRun.{KnownRun}
use Rattle.known.specs.declared.found.Stops.{Stops}
use Rattle.known.specs.declared.found.KnownAt.{KnownAt}
use Rattle.known.specs.declared.found.OpenCase.{OpenCase}
use Rattle.known.specs.Records.{RecordsValue, image_of_run, tells}
use Rattle.known.specs.Found.{AreKnown}

-- one of some records tells the representative of an open case
pub record IsToldBy (asked : Losses) (at : CutValue) (records : RecordsValue) (o : OpenCase) : Type 0 where
  pub run : KnownRun
  pub there : IsAmong records.runs run
  pub tells : tells records.log records.way (marks_at at.log.entries at.cut) (image_of at (case_of asked.tears (parts_of at) o.sets.items)) run ≡ true

-- some records are others, and more after them
pub record IsMore (was now : RecordsValue) : Type 0 where
  pub log : now.log ≡ was.log
  pub way : now.way ≡ was.way
  pub more : List KnownRun
  pub put : now.runs ≡ was.runs ++ more

-- A round: a search found what is wanted at some cuts, and records were appended that tell all of it. They may tell more.
pub record IsRound (asked : Losses) (log : LogValue) (way : By) (cuts : List ℕ) (stops : Stops) (was now : RecordsValue) : Type 0 where
  pub found : List KnownAt
  pub are : AreKnown asked log way cuts was stops found
  pub put : IsMore was now
  pub all : (i k : ℕ) (f : KnownAt) (o : OpenCase) → slice_get cuts i ≡ Some k → slice_get found i ≡ Some f → IsAmong f.open_cases.items o
      → IsToldBy asked (record { log = log; way = way; cut = k }) now o

-- n rounds led to some records, whichever there were before
pub data AreRounds (asked : Losses) (log : LogValue) (way : By) (cuts : List ℕ) (stops : Stops) : ℕ → RecordsValue → Type 0 where
  no_round : (records : RecordsValue) → AreRounds asked log way cuts stops 0 records
  one_more : (n : ℕ) (was now : RecordsValue) → AreRounds asked log way cuts stops n was → IsRound asked log way cuts stops was now
      → AreRounds asked log way cuts stops (suc n) now

-- in how many ways a part may be lost or torn
abbrev pub ways_lost : Losses → ℕ
ways_lost asked = if asked.tears then 15 else 1

-- A record tells its own image. After `ways_lost asked * p + 1` rounds, or more, nothing is wanted, where no cut has more than p parts
-- at risk. That holds of any records, of true ones and others.
pub record RoundsEnd : Type 0 where
  pub own : (records : RecordsValue) (r : KnownRun) → tells records.log records.way r.marks (image_of_run records.log records.way r) r ≡ true
  pub ended : (asked : Losses) (log : LogValue) (way : By) (cuts : List ℕ) (stops : Stops) (records : RecordsValue) (n p : ℕ) (found : List KnownAt)
      → AreRounds asked log way cuts stops n records → ways_lost asked * p + 1 ≤ n
      → ((i k : ℕ) → slice_get cuts i ≡ Some k → (k ≤ length log.entries) × (length (parts_of (record { log = log; way = way; cut = k })) ≤ p))
      → AreKnown asked log way cuts records stops found → (i : ℕ) (f : KnownAt) → slice_get found i ≡ Some f → f.open_cases.items ≡ []
