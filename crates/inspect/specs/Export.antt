-- The crash images of a log as bytes, each by what differs (docs/OUTPUT.md, The text of `export`).
use Rattle.std.specs.Prelude.{ℕ, ◌≡◌, ◌++◌, List, length, Option, true, false}
use Rattle.std.specs.Io.KnownBytes.{Appends, Keeps}
use Rattle.base.specs.declared.refusal.Refusal.{Refusal}
use Rattle.base.specs.Refusals.{memory_refusal}
use Rattle.logfmt.specs.Bounds.{LogValue}
use Rattle.export.specs.Export.{AskedValue, export_text}
use Rattle.export.specs.Streaming.{TakesPart}
use Rattle.inspect.specs.declared.looks.export_command.Stopped.{Stopped}
use Rattle.inspect.specs.declared.looks.export_command.Stopped.TheVariants as stopped
use Rattle.request.specs.declared.settings.Settings.{Settings}
use Rattle.request.specs.declared.settings.OptionPlace.TheVariants as place
use Rattle.request.specs.Settings.{option_refusal}
use Rattle.request.specs.Inputs.{number_line, options_given, report_number}
use Rattle.request.specs.Extents.{first_meant, end_meant, is_at_once}
use Rattle.request.specs.Source.{Recording, plan_of, images_of, HasImages, RefusesSource}

-- the images of a log that are meant
abbrev pub exported : Settings → LogValue → AskedValue
exported s value = record {
  plan = plan_of s value;
  bound = s.bound;
  tears = s.tears;
  from = first_meant s.extent;
  to = end_meant s.extent (length (images_of s value));
}

-- the line that says of which log and options they are
abbrev pub export_head : List ℕ → Settings → LogValue → List ℕ
export_head file s value = number_line (report_number file (options_given s value))

pub record IsExport (text : Recording) (s : Settings) (bytes : List ℕ) : Type 0 where
  pub taken : is_at_once s.extent ≡ true
  pub value : LogValue
  pub source : HasImages text s value
  pub told : bytes ≡ export_head text.text s value ++ export_text (exported s value)

-- the refusals in their order: that the images aren't taken at once, the log, then the number of its images
pub data RefusesExport (text : Recording) (s : Settings) : Refusal → Type 0 where
  for_extent : is_at_once s.extent ≡ false → RefusesExport text s (option_refusal place.Images)
  for_source : (r : Refusal) → RefusesSource text s r → RefusesExport text s r
  for_memory : (value : LogValue) → HasImages text s value → RefusesExport text s memory_refusal

-- By what a writer holds before and after, where that is known: all of the text was written; or the first bytes of it, and not all; or
-- none, and it is refused.
pub record WritesExport (text : Recording) (s : Settings) (before after : Option (List ℕ)) : Type 0 where
  pub bytes : List ℕ
  pub is : IsExport text s bytes
  pub all : Appends before after bytes

pub record CutsExport (text : Recording) (s : Settings) (before after : Option (List ℕ)) : Type 0 where
  pub bytes : List ℕ
  pub is : IsExport text s bytes
  pub part : TakesPart before after bytes

abbrev pub StopsExport : Recording → Settings → Option (List ℕ) → Option (List ℕ) → Stopped → Type 0
StopsExport text s before after (stopped.Refused r) = RefusesExport text s r × Keeps before after
StopsExport text s before after (stopped.Cut fault) = CutsExport text s before after

-- by which refusal a text ends that is wanted as bytes, and stops so
abbrev pub RefusesInstead : Stopped → Refusal → Type 0
RefusesInstead why r = (text : Recording) (s : Settings) (before after : Option (List ℕ)) → StopsExport text s before after why → RefusesExport text s r
