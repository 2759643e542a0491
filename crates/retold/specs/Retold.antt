-- What a command answers on a log and a report, and when it refuses.
use Rattle.std.specs.Prelude.{ℕ, zero, suc, ◌≡◌, ◌≢◌, ◌<◌, ◌≤◌, ◌^◌, ◌==◌, ◌||◌, ◌↔◌, IsTrue, Bool, true, List, [], ◌++◌, codes, length}
use Rattle.base.specs.declared.refusal.Refusal.{Refusal}
use Rattle.base.specs.Refusals.{memory_refusal}
use Rattle.logfmt.specs.Bounds.{LogValue}
use Rattle.choices.specs.Sums.{StartsValue}
use Rattle.epochs.specs.Flushes.{places_of}
use Rattle.request.specs.declared.settings.OptionPlace.TheVariants as place
use Rattle.request.specs.declared.settings.Settings.{Settings}
use Rattle.request.specs.declared.extent.Extent.TheVariants as extent
use Rattle.request.specs.Settings.{option_refusal}
use Rattle.request.specs.Inputs.{inputs_line, report_number, options_given}
use Rattle.request.specs.Source.{Recording, HasImages, RefusesSource, plan_of, images_of}
use Rattle.join.specs.Given.{GivenValue, IsReport, IsReportRead}
use Rattle.retold.specs.declared.command.RetellFault.{RetellFault}
use Rattle.retold.specs.declared.command.RetellFault.TheVariants as fault
use Rattle.request.specs.declared.settings.Retelling.{Retelling}
use Rattle.request.specs.declared.settings.Retelling.TheVariants as retelling
use Rattle.retold.specs.Told.{count_of, TellsWhy, TellsPage, TellsPlaces}

-- the choices of the log, which number its images
abbrev pub starts_given : Settings → LogValue → StartsValue
starts_given s value = record { plan = plan_of s value; bound = s.bound; tears = s.tears }

-- how a report begins: with its title, and after it with the line that says of what it is and of how many programs, where there is one
abbrev pub title_text : ℕ → ℕ → List ℕ
title_text number zero = codes "crash report 2\n"
title_text number (suc programs) = codes "crash report 2\n" ++ inputs_line number (suc programs)

-- it has as many programs as it says, where it says how many
abbrev pub is_counted : ℕ → GivenValue → Bool
is_counted said g = (said == 0) || (said == count_of g)

-- so it begins for the bytes of a file that spell the log
abbrev pub title_given : List ℕ → Settings → LogValue → ℕ → List ℕ
title_given file s value said = title_text (report_number file (options_given s value)) said

-- the bytes are the report of the log with these settings that begins so, and that is read of it
pub record IsGivenAs (file : List ℕ) (s : Settings) (value : LogValue) (report : List ℕ) (said : ℕ) (g : GivenValue) : Type 0 where
  pub counted : is_counted said g ≡ true
  pub read : IsReportRead (title_given file s value said) (options_given s value) (starts_given s value) (length (images_of s value)) report g

-- they are no such report
pub record NoneAs (file : List ℕ) (s : Settings) (value : LogValue) (report : List ℕ) (said : ℕ) : Type 0 where
  pub none : (g : GivenValue) → is_counted said g ≡ true
      → IsReport (title_given file s value said) (options_given s value) (starts_given s value) (length (images_of s value)) report g → ⊥

-- The bytes are the report of the log with these settings, and that is read of it. Where it says of what it is, that is the number of this
-- log with these settings, and it has as many programs as it says.
pub record IsGiven (file : List ℕ) (s : Settings) (value : LogValue) (report : List ℕ) (g : GivenValue) : Type 0 where
  pub said : ℕ
  pub few : said ≤ 8
  pub as_said : IsGivenAs file s value report said g

pub record NoneIsGiven (file : List ℕ) (s : Settings) (value : LogValue) (report : List ℕ) : Type 0 where
  pub none : (said : ℕ) → said ≤ 8 → NoneAs file s value report said

-- none that says 1 to that many programs
abbrev pub NoneUpTo : List ℕ → Settings → LogValue → List ℕ → ℕ → Type 0
NoneUpTo file s value report most = (said : ℕ) → 0 < said → said ≤ most → NoneAs file s value report said

-- what is told: why programs fail, the page of where they do, or where flushes are missing
abbrev pub Retells : Retelling → Settings → LogValue → GivenValue → List ℕ → Type 0
Retells retelling.Causes s value g bytes = TellsWhy (starts_given s value) g bytes
Retells retelling.Page s value g bytes = TellsPage (options_given s value) (starts_given s value) g bytes
Retells retelling.Places s value g bytes = TellsPlaces (places_of s.cuts.flushes) (starts_given s value) g bytes

-- the bytes tell this of the failing lines of the report, which is one of the log with these settings
pub record IsRetoldOf (t : Retelling) (file : List ℕ) (s : Settings) (value : LogValue) (report bytes : List ℕ) (failing : Bool) : Type 0 where
  pub given : GivenValue
  pub is : IsGiven file s value report given
  pub tells : Retells t s value given bytes
  pub fails : IsTrue failing ↔ (given.lines ≢ [])

-- the same of the log that a recording is, where all of its images are meant
pub record IsRetold (t : Retelling) (text : Recording) (report : List ℕ) (s : Settings) (bytes : List ℕ) (failing : Bool) : Type 0 where
  pub whole : s.extent ≡ extent.Whole
  pub short : length report ≤ 2 ^ 30
  pub value : LogValue
  pub source : HasImages text s value
  pub told : IsRetoldOf t text.text s value report bytes failing

-- the recording, or the number of its images, is refused
pub data RefusesSourceAs (text : Recording) (s : Settings) : RetellFault → Type 0 where
  with_refusal : (r : Refusal) → RefusesSource text s r → RefusesSourceAs text s (fault.Refused r)

-- the bytes are the report of no run of that log with these settings, at whatever line that shows; or want of memory
pub data RefusesReport (file : List ℕ) (s : Settings) (value : LogValue) (report : List ℕ) : RetellFault → Type 0 where
  no_report : (line : ℕ) → NoneIsGiven file s value report → RefusesReport file s value report (fault.Report line)
  no_memory : RefusesReport file s value report (fault.Refused memory_refusal)

-- The refusals in their order: options that mean a part of a run; a report that is longer than 1 GiB; the log and the number of its images;
-- a report that is none of the log with these settings. Want of memory may come wherever a list has to grow.
pub data RefusesRetold (text : Recording) (report : List ℕ) (s : Settings) : RetellFault → Type 0 where
  for_part : s.extent ≢ extent.Whole → RefusesRetold text report s (fault.Refused (option_refusal place.Images))
  too_long : s.extent ≡ extent.Whole → 2 ^ 30 < length report → RefusesRetold text report s (fault.Report 0)
  for_source : (f : RetellFault) → s.extent ≡ extent.Whole → length report ≤ 2 ^ 30 → RefusesSourceAs text s f → RefusesRetold text report s f
  for_report : (f : RetellFault) (value : LogValue) → s.extent ≡ extent.Whole → length report ≤ 2 ^ 30 → HasImages text s value → RefusesReport text.text s value report f → RefusesRetold text report s f
  want_of_memory : RefusesRetold text report s (fault.Refused memory_refusal)
