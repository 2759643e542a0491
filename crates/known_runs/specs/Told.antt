-- What is told of a log by records, and when that is refused.
use Rattle.std.specs.Prelude.{ℕ, ◌≡◌, ◌<◌, ◌≤◌, ◌^◌, List, length, map, Option, option_map}
use Rattle.base.specs.declared.refusal.Refusal.{Refusal}
use Rattle.base.specs.Refusals.{memory_refusal}
use Rattle.logfmt.specs.Bounds.{LogValue}
use Rattle.losses.specs.FoundCases.{most_cases}
use Rattle.known.specs.declared.run.KnownRun.{KnownRun}
use Rattle.known.specs.declared.found.KnownAt.{KnownAt}
use Rattle.known.specs.declared.contradict.Contradiction.{Contradiction}
use Rattle.known.specs.Records.{RecordsValue}
use Rattle.known.specs.Contradictions.{NoneAgainst, IsFirst}
use Rattle.known.specs.Found.{AreKnown, AreTooMany, cases_in}
use Rattle.known_text.specs.declared.fault.KnownCause.{KnownCause}
use Rattle.known_text.specs.declared.fault.KnownCause.TheVariants as cause
use Rattle.known_text.specs.declared.fault.KnownFault.{KnownFault}
use Rattle.known_text.specs.Records.{ran_of}
use Rattle.known_text.specs.Texts.{HeadValue, IsKnownOnly, IsRefused}
use Rattle.request.specs.Inputs.{head_given}
use Rattle.request.specs.Source.{HasImages, RefusesSource, images_refusal}
use Rattle.known_runs.specs.declared.asked.KnownRunFault.{KnownRunFault}
use Rattle.known_runs.specs.declared.asked.KnownRunFault.TheVariants as fault
use Rattle.known_runs.specs.Asked.{KnownAsked, asked_losses, asked_cuts}
use Rattle.known_runs.specs.Number.{source_of}
use Rattle.known_runs.specs.Totals.{totals_of, status_of}
use Rattle.known_runs.specs.Text.{known_bytes}
use Rattle.known_runs.specs.Lines.{record_line}

-- records of a log without flushes that are added
abbrev pub records_of : KnownAsked → LogValue → List KnownRun → RecordsValue
records_of a plain runs = record { log = plain; way = a.settings.by; runs = runs }

-- no two of them contradict each other
abbrev pub NoneContradicts : RecordsValue → Type 0
NoneContradicts v = (later : ℕ) → NoneAgainst v later later

-- The bytes of the file are records of the log without flushes that are added, and no other records. By these, which don't contradict each
-- other, this is found of the log at each cut at which cases are looked for.
pub record FindsBy (a : KnownAsked) (value plain : LogValue) (runs : List KnownRun) (found : List KnownAt) : Type 0 where
  pub agree : NoneContradicts (records_of a plain runs)
  pub are : AreKnown (asked_losses a) value a.settings.by (asked_cuts a value) (records_of a plain runs) a.stops found
  pub few : cases_in found ≤ most_cases

pub record FindsKnown (a : KnownAsked) (value plain : LogValue) (head : Option HeadValue) (found : List KnownAt) : Type 0 where
  pub runs : List KnownRun
  pub read : IsKnownOnly (source_of a plain) a.records head (map ran_of runs)
  pub finds : FindsBy a value plain runs found

-- the text of what is found, and its status
pub record TellsOf (a : KnownAsked) (value plain : LogValue) (bytes : List ℕ) (status : ℕ) : Type 0 where
  pub head : Option HeadValue
  pub found : List KnownAt
  pub finds : FindsKnown a value plain head found
  pub text : bytes ≡ known_bytes (source_of a plain).inputs (head_given a.settings value) (asked_losses a) head value found
  pub is : status ≡ status_of (totals_of found)

-- the same of the log that is asked for of the recording, by records of that log without flushes that are added
pub record TellsKnown (a : KnownAsked) (bytes : List ℕ) (status : ℕ) : Type 0 where
  pub short : length a.records ≤ 2 ^ 30
  pub value : LogValue
  pub source : HasImages a.text a.settings value
  pub tells : TellsOf a value source.reads.read bytes status

-- WHAT IS REFUSED

abbrev pub memory_fault : KnownRunFault
memory_fault = fault.Refused memory_refusal

abbrev pub fault_by : KnownCause → ℕ → KnownRunFault
fault_by cause.Line line = fault.Line line
fault_by cause.Other line = fault.Other line
fault_by cause.Memory line = memory_fault

-- the refusal of a text of records
abbrev pub text_fault : KnownFault → KnownRunFault
text_fault f = fault_by f.cause f.line

-- that of two records, by the lines at which they stand
abbrev pub contradiction_fault : List ℕ → Contradiction → KnownRunFault
contradiction_fault bytes found = fault.Contradiction (record_line bytes found.earlier) (record_line bytes found.later)

-- two of the records contradict each other; or there are too many told leaves and open cases, by the cut with which there are; or want of memory
pub data RefusesBy (a : KnownAsked) (value plain : LogValue) (runs : List KnownRun) : KnownRunFault → Type 0 where
  for_contradiction : (found : Contradiction) → IsFirst (records_of a plain runs) found → RefusesBy a value plain runs (contradiction_fault a.records found)
  for_cases : (cut : ℕ) → NoneContradicts (records_of a plain runs)
      → AreTooMany (asked_losses a) value a.settings.by (asked_cuts a value) (records_of a plain runs) a.stops cut → RefusesBy a value plain runs (fault.Refused (images_refusal cut))
  no_search_memory : RefusesBy a value plain runs memory_fault

-- the bytes are no text of records of the log, by the line at which that shows; or these are refused
pub data RefusesOf (a : KnownAsked) (value plain : LogValue) : KnownRunFault → Type 0 where
  for_text : (f : KnownFault) → IsRefused (source_of a plain) a.records f → RefusesOf a value plain (text_fault f)
  for_records : (f : KnownRunFault) (head : Option HeadValue) (runs : List KnownRun) → IsKnownOnly (source_of a plain) a.records head (map ran_of runs)
      → RefusesBy a value plain runs f → RefusesOf a value plain f
  no_memory : RefusesOf a value plain memory_fault

-- The refusals in their order: a text that is longer than 1 GiB; the log and the number of its images; the text, or its records. Want of memory
-- may come wherever a list has to grow.
pub data RefusesKnown (a : KnownAsked) : KnownRunFault → Type 0 where
  too_long : 2 ^ 30 < length a.records → RefusesKnown a (fault.Line 0)
  for_source : (r : Refusal) → length a.records ≤ 2 ^ 30 → RefusesSource a.text a.settings r → RefusesKnown a (fault.Refused r)
  for_rest : (f : KnownRunFault) (value : LogValue) (source : HasImages a.text a.settings value) → length a.records ≤ 2 ^ 30
      → RefusesOf a value source.reads.read f → RefusesKnown a f
