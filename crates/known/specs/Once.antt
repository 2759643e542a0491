-- What records tell of a cut is one.
use Rattle.std.specs.Prelude.{ℕ, ◌≡◌, ◌<◌, Bool, List, map}
use Rattle.cases.specs.Cases.{Case}
use Rattle.cases.specs.AtCut.{CutValue, parts_of, case_of}
use Rattle.losses.specs.declared.found.Losses.{Losses}
use Rattle.known.specs.declared.run.RunEnd.{RunEnd}
use Rattle.known.specs.declared.found.KnownAt.{KnownAt}
use Rattle.known.specs.declared.found.KnownFailing.{KnownFailing}
use Rattle.known.specs.declared.found.OpenCase.{OpenCase}
use Rattle.known.specs.declared.found.Stops.{Stops}
use Rattle.known.specs.Records.{RecordsValue}
use Rattle.known.specs.declared.run.KnownRun.{KnownRun}
use Rattle.known.specs.Contradictions.{contradict_at}
use Rattle.known.specs.Found.{IsKnownAt, IsPast, cases_at}

-- what a record says
pub record RunValue : Type 0 where
  pub cut : ℕ
  pub sets : List ℕ
  pub marks : ℕ
  pub end : RunEnd
  pub looked : List ℕ

abbrev pub run_value : KnownRun → RunValue
run_value r = record { cut = r.cut; sets = r.sets.items; marks = r.marks; end = r.end; looked = r.looked.items }

-- records of one log say the same
pub record SaySame (v w : RecordsValue) : Type 0 where
  pub log : v.log ≡ w.log
  pub way : v.way ≡ w.way
  pub runs : map run_value v.runs ≡ map run_value w.runs

-- a failing leaf by its number, how the program ends there, and its case
pub record FailingCaseValue : Type 0 where
  pub number : ℕ
  pub end : RunEnd
  pub is : Case

abbrev pub failing_case_value : CutValue → Bool → KnownFailing → FailingCaseValue
failing_case_value at tears f = record { number = f.number; end = f.end; is = case_of tears (parts_of at) f.sets.items }

-- an open case
abbrev pub open_case : CutValue → Bool → OpenCase → Case
open_case at tears o = case_of tears (parts_of at) o.sets.items

-- the same was found at a cut: the same cases, which may be said by other sets
pub record SameKnown (at : CutValue) (tears : Bool) (found other : KnownAt) : Type 0 where
  pub cut : found.cut ≡ other.cut
  pub told : found.told ≡ other.told
  pub failing : map (failing_case_value at tears) found.failing.items ≡ map (failing_case_value at tears) other.failing.items
  pub are_open : map (open_case at tears) found.open_cases.items ≡ map (open_case at tears) other.open_cases.items
  pub torn : found.torn_beyond ≡ other.torn_beyond
  pub lost : found.lost_beyond ≡ other.lost_beyond
  pub stopped : found.stopped ≡ other.stopped

-- By records that say the same what is found at a cut is one. Where a search comes to more than some leaves, more are found. The same records
-- contradict each other.
pub record FoundIsOne : Type 0 where
  pub same : (asked : Losses) (at : CutValue) (records others : RecordsValue) (stops : Stops) (found other : KnownAt) → SaySame records others
      → IsKnownAt asked at records stops found → IsKnownAt asked at others stops other → SameKnown at asked.tears found other
  pub more : (asked : Losses) (at : CutValue) (records others : RecordsValue) (stops : Stops) (found : KnownAt) (most : ℕ) → SaySame records others
      → IsKnownAt asked at records stops found → IsPast asked at others stops most → most < cases_at found
  pub against : (records others : RecordsValue) (i j : ℕ) → SaySame records others → contradict_at records i j ≡ contradict_at others i j
