-- What was read of a log, by the settings.
use Rattle.std.proofs.Common.{ℕ, ◌≡◌, ◌≤◌, ◌*◌, ◌⊎◌, inl, inr, ◌<◌, List, [], length, slice_get, Option, None, Some, true, refl, sym, ap, ◌∙◌, subst, arith}
use Rattle.base.specs.Sizes.{byte_limit, unit_limit}
use Rattle.base.specs.declared.causes.LogCause.TheVariants as log
use Rattle.logfmt.specs.declared.fault.LogFault.{LogFault}
use Rattle.logfmt.specs.Bounds.{LogValue, IsLog, AreBytes, units_of}
use Rattle.logfmt.specs.Initial.{over}
use Rattle.logfmt.proofs.Flushed.{log-flushed}
use Rattle.logfmt.specs.Faults as log_fault
use Rattle.logfmt.specs.LogText.{LogText}
use Rattle.logfmt.specs.Flushed.{with_flushes}
use Rattle.logfmt.specs.declared.entry.Entry.{Entry}
use Rattle.std.specs.List.{slice_index_or}
use Rattle.epochs.specs.declared.cuts.Cuts.{Cuts}
use Rattle.epochs.specs.Flushes.{places_of}
use Rattle.request.proofs.Lacking.{none_lacks, entries_there}
use Rattle.request.specs.declared.settings.Settings.{Settings}
use Rattle.request.specs.Extents.{most_images, has_extent}
use Rattle.request.specs.Source.{Recording, FitsDevice, IsRecorded, IsLogOf, HasImages, images_of, lacking, log_refusal, lacking_refusal, lacks, RefusesLog, with_fault, no_memory}

-- a log over other initial content, which fits its device, has the same text
pub text_over : (text : List ℕ) (log : LogValue) (initial : List ℕ) → LogText text log → length initial ≤ 512 * log.sectors → AreBytes initial
    → LogText text (over initial log)
text_over text log initial is fits are = record {
  size = is.size;
  super = is.super;
  stands = is.stands;
  bounds = record {
    some = is.bounds.some;
    device = is.bounds.device;
    count = is.bounds.count;
    units = is.bounds.units;
    entries = is.bounds.entries;
    size = is.bounds.size;
    held = fits;
    initial = are;
  };
  recorded = is.recorded;
}

pub recorded_over : (r : Recording) (s : Settings) (log : LogValue) → LogText r.text log → log.sectors ≡ s.sectors → length r.text ≤ byte_limit s.limits
    → units_of log.entries ≤ unit_limit s.limits → FitsDevice r s → AreBytes r.initial → IsRecorded r s (over r.initial log)
recorded_over r s log is device short few fits are = record {
  device = device;
  size = short;
  units = few;
  of_log = text_over r.text log r.initial is (let fit = fits in omega (arith, fit, device)) are;
  initial = refl;
}

-- what `log_over_base` answers
pub log_refused : (r : Recording) (s : Settings) (f : LogFault) → FitsDevice r s
    → (f ≡ record { code = log.Memory; at = 0 }) ⊎ log_fault.FirstFault r.text s.sectors s.limits f.code f.at → RefusesLog r s (log_refusal f.code f.at)
log_refused r s f fits (inl e) = rw e no_memory
log_refused r s f fits (inr h) = with_fault f.code f.at fits h

pub has_images : (text : Recording) (s : Settings) (log : LogValue) (images : ℕ) → IsLogOf text s log → images ≡ length (images_of s log) → images ≤ most_images s.extent
    → has_extent s.extent images ≡ true → HasImages text s log
has_images text s log images reads count few within = record {
  reads = reads;
  few = omega (arith, count, few);
  within = subst (λ (n : ℕ). has_extent s.extent n ≡ true) count within;
}

-- nothing that is named is lacking
nothing : (cuts : Cuts) (log : LogValue) (es : List Entry) (first : Option ℕ) → es ≡ log.entries → first ≡ slice_get (lacking cuts (length es)) 0 → first ≡ None
    → lacking cuts (length log.entries) ≡ []
nothing cuts log es first same is none =
    subst (λ (xs : List Entry). lacking cuts (length xs) ≡ []) same (none_lacks cuts (length es) (sym is ∙ none))

pub there : (cuts : Cuts) (log : LogValue) (es : List Entry) (places : List ℕ) (first : Option ℕ) → es ≡ log.entries → places ≡ places_of cuts.flushes
    → first ≡ slice_get (lacking cuts (length es)) 0 → first ≡ None → (k d : ℕ) → k < length places → slice_index_or places k d < length log.entries
there cuts log es places first same are is none =
    subst (λ (ps : List ℕ). (k d : ℕ) → k < length ps → slice_index_or ps k d < length log.entries) (sym are)
    (entries_there cuts (length log.entries) (nothing cuts log es first same is none))

-- an entry or a cut is lacking
pub lacks_place : (text : Recording) (s : Settings) (cuts : Cuts) (log : LogValue) (es : List Entry) (first : Option ℕ) (place : ℕ) → cuts ≡ s.cuts → IsRecorded text s log
    → es ≡ log.entries → first ≡ slice_get (lacking cuts (length es)) 0 → first ≡ Some place → RefusesLog text s (lacking_refusal place)
lacks_place text s cuts log es first place asked recorded same is found =
    let at : slice_get (lacking cuts (length log.entries)) 0 ≡ Some place = subst (λ (xs : List Entry). slice_get (lacking cuts (length xs)) 0 ≡ Some place) same (sym is ∙ found) in
    lacks log place recorded (subst (λ (c : Cuts). slice_get (lacking c (length log.entries)) 0 ≡ Some place) asked at)

-- the log that is asked for
pub log_of : (text : Recording) (s : Settings) (cuts : Cuts) (log value : LogValue) (es : List Entry) (places : List ℕ) (first : Option ℕ) → cuts ≡ s.cuts
    → IsRecorded text s log → es ≡ log.entries → places ≡ places_of cuts.flushes → first ≡ slice_get (lacking cuts (length es)) 0 → first ≡ None → value ≡ with_flushes places log
    → IsLogOf text s value
log_of text s cuts log value es places first asked recorded same are is none added = record {
  read = log;
  recorded = recorded;
  has = subst (λ (c : Cuts). lacking c (length log.entries) ≡ []) asked (nothing cuts log es first same is none);
  added = added ∙ ap (λ ps. with_flushes ps log) (are ∙ ap (λ (c : Cuts). places_of c.flushes) asked);
}

-- a log that is asked for is one for the device, within the bounds of a log
pub device_of : (text : Recording) (s : Settings) (value : LogValue) → IsLogOf text s value → value.sectors ≡ s.sectors
device_of text s value is = ap (λ (v : LogValue). v.sectors) is.added ∙ is.recorded.device

pub bounds_of : (text : Recording) (s : Settings) (value : LogValue) → IsLogOf text s value → IsLog value
bounds_of text s value is = subst IsLog (sym is.added) (log-flushed (places_of s.cuts.flushes) is.read is.recorded.of_log.bounds)
