-- What a command reads of a log: the log itself, and the crash images that are asked for of it.
use Rattle.std.specs.Prelude.{ℕ, ◌≡◌, ◌<◌, ◌≤◌, ◌*◌, ◌++◌, nat_le, nat_lt, true, false, if◌then◌else◌, List, [], ◌∷◌, length, filter, slice_get, Option, None, Some}
use Rattle.base.specs.Sizes.{byte_limit, unit_limit}
use Rattle.base.specs.declared.causes.LogCause.{LogCause}
use Rattle.base.specs.declared.causes.LogCause.TheVariants as log
use Rattle.base.specs.declared.causes.RequestCause.TheVariants as request
use Rattle.base.specs.declared.refusal.Refusal.{Refusal}
use Rattle.base.specs.Refusals.{memory_refusal}
use Rattle.base.specs.declared.refusal.Cause.TheVariants.{Log, Request}
use Rattle.logfmt.specs.Bounds.{LogValue, units_of}
use Rattle.logfmt.specs.LogText.{LogText}
use Rattle.logfmt.specs.Faults as log_fault
use Rattle.logfmt.specs.Flushed.{with_flushes}
use Rattle.epochs.specs.declared.cuts.Cuts.{Cuts}
use Rattle.epochs.specs.Flushes.{places_of}
use Rattle.epochs.specs.Plan.{PlanValue}
use Rattle.choices.specs.Choices.{ChoiceValue, ranked_choices, IsFirstPastOf}
use Rattle.request.specs.declared.settings.Settings.{Settings}
use Rattle.request.specs.declared.settings.OptionPlace.TheVariants as place
use Rattle.request.specs.Settings.{option_refusal}
use Rattle.request.specs.Extents.{most_images, has_extent}

-- a recording: the bytes of a log, and of what the device held before entry 0 (docs/CRASH-MODEL.md, Terms), none where nothing
-- is said of it
pub record Recording : Type 0 where
  pub text : List ℕ
  pub initial : List ℕ

abbrev pub RecordingValue : Type 0
RecordingValue = Recording

-- the bytes of the log are those of this log, no more of them and no more units than the limits allow, for the device of the settings,
-- over that initial content
pub record IsRecorded (r : Recording) (s : Settings) (value : LogValue) : Type 0 where
  pub device : value.sectors ≡ s.sectors
  pub size : length r.text ≤ byte_limit s.limits
  pub units : units_of value.entries ≤ unit_limit s.limits
  pub of_log : LogText r.text value
  pub initial : value.initial ≡ r.initial

-- the first of two, where there is one, and else the second
abbrev pub either : Option ℕ → Option ℕ → Option ℕ
either (Some place) second = Some place
either None second = second

-- a cut that is given and that a log of n entries doesn't have
abbrev pub cut_past : ℕ → Option ℕ → List ℕ
cut_past n None = []
cut_past n (Some cut) = if nat_lt n cut then cut ∷ [] else []

-- what is named that a log of n entries doesn't have: entries before which a flush is to be added, then the first cut, then the
-- last
unfoldable pub lacking : Cuts → ℕ → List ℕ
lacking cuts n = filter (λ entry. nat_le n entry) (places_of cuts.flushes) ++ (cut_past n cuts.from ++ cut_past n cuts.to)

-- the log that is asked for of this recording: the one that it is, which has each entry and cut that is named, with the flushes
-- that are added
pub record IsLogOf (r : Recording) (s : Settings) (value : LogValue) : Type 0 where
  pub read : LogValue
  pub recorded : IsRecorded r s read
  pub has : lacking s.cuts (length read.entries) ≡ []
  pub added : value ≡ with_flushes (places_of s.cuts.flushes) read

-- the log with the cuts and the kind of parts that are asked for
abbrev pub plan_of : Settings → LogValue → PlanValue
plan_of s value = record { log = value; kind = s.cuts; by = s.by }

-- the choices of which the images are: image n is that of choice n
abbrev pub images_of : Settings → LogValue → List ChoiceValue
images_of s value = ranked_choices (plan_of s value) s.bound s.tears

-- it is the log that is asked for of the recording, it has no more images than the run may have, and it has those that are meant
pub record HasImages (r : Recording) (s : Settings) (value : LogValue) : Type 0 where
  pub reads : IsLogOf r s value
  pub few : length (images_of s value) ≤ most_images s.extent
  pub within : has_extent s.extent (length (images_of s value)) ≡ true

abbrev pub log_refusal : LogCause → ℕ → Refusal
log_refusal cause at = record { code = Log cause; at = at; program = None }

abbrev pub images_refusal : ℕ → Refusal
images_refusal cut = record { code = Request request.TooManyImages; at = cut; program = None }

abbrev pub lacking_refusal : ℕ → Refusal
lacking_refusal place = record { code = Request request.NotInLog; at = place; program = None }

-- the initial content is no longer than the device of the settings
abbrev pub FitsDevice : Recording → Settings → Type 0
FitsDevice r s = length r.initial ≤ 512 * s.sectors

-- the refusals of a recording: initial content that is longer than the device; the log's first fault, or want of memory; or the
-- first entry or cut that is named and that the log doesn't have
pub data RefusesLog (r : Recording) (s : Settings) : Refusal → Type 0 where
  past_device : 512 * s.sectors < length r.initial → RefusesLog r s (option_refusal place.Base)
  with_fault : (cause : LogCause) (at : ℕ) → FitsDevice r s → log_fault.FirstFault r.text s.sectors s.limits cause at → RefusesLog r s (log_refusal cause at)
  no_memory : RefusesLog r s (log_refusal log.Memory 0)
  lacks : (read : LogValue) (at : ℕ) → IsRecorded r s read → slice_get (lacking s.cuts (length read.entries)) 0 ≡ Some at
      → RefusesLog r s (lacking_refusal at)

-- the refusals of a plan: it has too many images, by the cut with which their number passes the most; or it lacks some that are
-- meant; or want of memory
pub data RefusesPlan (s : Settings) (value : LogValue) : Refusal → Type 0 where
  too_many : (cut : ℕ) → IsFirstPastOf (most_images s.extent) (plan_of s value) s.bound s.tears cut → RefusesPlan s value (images_refusal cut)
  lacks_images : length (images_of s value) ≤ most_images s.extent → has_extent s.extent (length (images_of s value)) ≡ false
      → RefusesPlan s value (option_refusal place.Images)
  no_plan_memory : RefusesPlan s value memory_refusal

-- both in their order: the recording, then the number of its images
pub data RefusesSource (text : Recording) (s : Settings) : Refusal → Type 0 where
  for_log : (r : Refusal) → RefusesLog text s r → RefusesSource text s r
  for_plan : (r : Refusal) (value : LogValue) → IsLogOf text s value → RefusesPlan s value r → RefusesSource text s r
