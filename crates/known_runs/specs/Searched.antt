-- Why records tell nothing of a log.
use Rattle.std.specs.Prelude.{ℕ, ◌≡◌}
use Rattle.base.specs.declared.refusal.Refusal.{Refusal}
use Rattle.base.specs.Refusals.{memory_refusal}
use Rattle.logfmt.specs.Bounds.{LogValue}
use Rattle.case_runs.specs.declared.found.SearchFault.{SearchFault}
use Rattle.case_runs.specs.declared.found.SearchFault.TheVariants as fault
use Rattle.known.specs.Records.{RecordsValue}
use Rattle.known.specs.Found.{AreTooMany}
use Rattle.request.specs.Source.{images_refusal}
use Rattle.known_text.specs.declared.fault.KnownFault.{KnownFault}
use Rattle.known_text.specs.Texts.{IsRefused}
use Rattle.known_runs.specs.declared.asked.KnownRunFault.{KnownRunFault}
use Rattle.known_runs.specs.Asked.{KnownAsked, asked_losses, asked_cuts}
use Rattle.known_runs.specs.Number.{source_of}
use Rattle.known_runs.specs.Told.{text_fault, memory_fault}

-- the refusal that says why nothing was found
abbrev pub StopsFor : SearchFault → Refusal → Type 0
StopsFor fault.Memory r = r ≡ memory_refusal
StopsFor (fault.TooMany cut) r = r ≡ images_refusal cut

-- memory was wanting, or there are too many told leaves and open cases, by the cut with which there are
pub data RefusesSearch (a : KnownAsked) (value : LogValue) (records : RecordsValue) : Refusal → Type 0 where
  no_memory : RefusesSearch a value records memory_refusal
  too_many : (cut : ℕ) → AreTooMany (asked_losses a) value a.settings.by (asked_cuts a value) records a.stops cut → RefusesSearch a value records (images_refusal cut)

-- the bytes are no text of records of the log, by the line at which that shows; or memory was wanting
pub data RefusesText (a : KnownAsked) (plain : LogValue) : KnownRunFault → Type 0 where
  no_text : (f : KnownFault) → IsRefused (source_of a plain) a.records f → RefusesText a plain (text_fault f)
  no_text_memory : RefusesText a plain memory_fault
