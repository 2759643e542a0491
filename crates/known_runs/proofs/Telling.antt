-- What is told of a log, and why nothing is.
use Rattle.std.proofs.Common.{ℕ, true, ◌≡◌, ◌<◌, ◌≤◌, ◌^◌, ◌⊎◌, inl, inr, List, length, map, All, Option, refl, sym, subst, ap, ◌∙◌, arith}
use Rattle.std.proofs.lemmas.Option.{slice_get-get_or}
use Rattle.base.specs.declared.refusal.Refusal.{Refusal}
use Rattle.base.specs.Refusals.{memory_refusal}
use Rattle.logfmt.specs.Bounds.{LogValue}
use Rattle.logfmt.specs.Laws.{TextOfOneLog}
use Rattle.epochs.specs.declared.part.By.{By}
use Rattle.losses.specs.declared.found.Losses.{Losses}
use Rattle.case_runs.specs.declared.found.SearchFault.{SearchFault}
use Rattle.case_runs.specs.declared.found.SearchFault.TheVariants as why
use Rattle.known.specs.declared.found.Stops.{Stops}
use Rattle.known.specs.declared.found.KnownAt.{KnownAt}
use Rattle.known.specs.Records.{RecordsValue}
use Rattle.known.specs.declared.run.KnownRun.{KnownRun}
use Rattle.known.specs.declared.contradict.Contradiction.{Contradiction}
use Rattle.known.specs.Contradictions.{IsFirst}
use Rattle.known.specs.Found.{AreKnown, IsKnownAt, StopsIn, AreTooMany, cases_in}
use Rattle.losses.specs.FoundCases.{most_cases}
use Rattle.known_text.specs.declared.fault.KnownCause.{KnownCause}
use Rattle.known_text.specs.declared.fault.KnownCause.TheVariants as cause
use Rattle.known_text.specs.declared.fault.KnownFault.{KnownFault}
use Rattle.known_text.specs.Records.{RanValue}
use Rattle.known_text.specs.Texts.{Source, HeadValue, IsKnownOnly, IsRefused}
use Rattle.request.specs.declared.settings.Settings.{Settings}
use Rattle.request.specs.Extents.{most_images, has_extent}
use Rattle.request.specs.Source.{Recording, IsRecorded, IsLogOf, HasImages, images_of, images_refusal}
use Rattle.known_runs.specs.declared.asked.KnownRunFault.{KnownRunFault}
use Rattle.known_runs.specs.declared.asked.KnownRunFault.TheVariants as fault
use Rattle.known_runs.specs.Asked.{KnownAsked, asked_losses, asked_cuts}
use Rattle.known_runs.specs.Number.{source_of}
use Rattle.known_runs.specs.Searched.{StopsFor, RefusesSearch, no_memory, too_many, RefusesText, no_text, no_text_memory}
use Rattle.known_runs.specs.Told as told
use Rattle.known_runs.specs.Wanted.{WantsOf, TellsWanted}

-- the refusal of a text, as it was read of a log
pub text_refused : (a : KnownAsked) (plain : LogValue) (s : Source) (f : KnownFault) → s ≡ source_of a plain → (f.cause ≡ cause.Memory) ⊎ IsRefused s a.records f → RefusesText a plain (told.text_fault f)
text_refused a plain s f same (inl memory) =
    subst (λ (x : KnownRunFault). RefusesText a plain x) (ap (λ (c : KnownCause). told.fault_by c f.line) (sym memory)) no_text_memory
text_refused a plain s f same (inr is) = no_text f (subst (λ (x : Source). IsRefused x a.records f) same is)

pub text_read : (a : KnownAsked) (plain : LogValue) (s : Source) (head : Option HeadValue) (runs : List RanValue) → s ≡ source_of a plain → IsKnownOnly s a.records head runs
    → IsKnownOnly (source_of a plain) a.records head runs
text_read a plain s head runs same is = subst (λ (x : Source). IsKnownOnly x a.records head runs) same is

-- of what a text is read
pub read_of : (a : KnownAsked) (plain : LogValue) (way : By) (inputs : ℕ) → way ≡ a.settings.by → inputs ≡ (source_of a plain).inputs
    → ◌≡◌ {A = Source} (record { log = plain; way = way; inputs = inputs }) (source_of a plain)
read_of a plain way inputs by number = λ i. record { log = plain; way = by i; inputs = number i }

pub of_text : (a : KnownAsked) (value plain : LogValue) (f : KnownRunFault) → RefusesText a plain f → told.RefusesOf a value plain f
of_text a value plain _ (no_text f is) = told.for_text f is
of_text a value plain _ no_text_memory = told.no_memory

-- that of a search
pub search_refused : (a : KnownAsked) (value : LogValue) (asked : Losses) (way : By) (cuts : List ℕ) (records : RecordsValue) (f : SearchFault) (r : Refusal)
    → asked ≡ asked_losses a → way ≡ a.settings.by → cuts ≡ asked_cuts a value → StopsIn asked value way cuts records a.stops f → StopsFor f r → RefusesSearch a value records r
search_refused a value asked way cuts records why.Memory r asked_is way_is cuts_are stops is = subst (λ (x : Refusal). RefusesSearch a value records x) (sym is) no_memory
search_refused a value asked way cuts records (why.TooMany cut) r asked_is way_is cuts_are stops is =
    subst (λ (x : Refusal). RefusesSearch a value records x) (sym is)
    (too_many cut
    (subst (λ (q : Losses). AreTooMany q value a.settings.by (asked_cuts a value) records a.stops cut) asked_is
    (subst (λ (b : By). AreTooMany asked value b (asked_cuts a value) records a.stops cut) way_is
    (subst (λ (ks : List ℕ). AreTooMany asked value way ks records a.stops cut) cuts_are stops))))

pub search_found : (a : KnownAsked) (value : LogValue) (asked : Losses) (way : By) (cuts : List ℕ) (records : RecordsValue) (found : List KnownAt)
    → asked ≡ asked_losses a → way ≡ a.settings.by → cuts ≡ asked_cuts a value → AreKnown asked value way cuts records a.stops found
    → AreKnown (asked_losses a) value a.settings.by (asked_cuts a value) records a.stops found
search_found a value asked way cuts records found asked_is way_is cuts_are are =
    subst (λ (q : Losses). AreKnown q value a.settings.by (asked_cuts a value) records a.stops found) asked_is
    (subst (λ (b : By). AreKnown asked value b (asked_cuts a value) records a.stops found) way_is
    (subst (λ (ks : List ℕ). AreKnown asked value way ks records a.stops found) cuts_are are))

-- what was found is of cuts of the log
pub found_within : (asked : Losses) (log : LogValue) (way : By) (cuts : List ℕ) (records : RecordsValue) (stops : Stops) (found : List KnownAt) (n : ℕ)
    → AreKnown asked log way cuts records stops found → All (λ cut. cut ≤ n) cuts → All (λ (f : KnownAt). f.cut ≤ n) found
found_within asked log way cuts records stops found n are within k d lt =
    let long = are.count in
    let here : k < length cuts = omega (arith, lt, long) in
    let own = (are.each k _ _ (slice_get-get_or cuts k 0 here) (slice_get-get_or found k d lt)).cut in
    subst (λ m. m ≤ n) (sym own) (within k 0 here)

-- two logs of one recording are the same
pub same_log : TextOfOneLog → (r : Recording) (s : Settings) (one other : LogValue) → IsRecorded r s one → IsRecorded r s other → one ≡ other
same_log one_log r s one other is it = one_log r.text one other is.of_log it.of_log (is.device ∙ sym it.device) (is.initial ∙ sym it.initial)

pub tells_known : (a : KnownAsked) (value plain : LogValue) (images : ℕ) (bytes : List ℕ) (status : ℕ) → TextOfOneLog → length a.records ≤ 2 ^ 30 → IsLogOf a.text a.settings value
    → IsRecorded a.text a.settings plain → images ≡ length (images_of a.settings value) → images ≤ most_images a.settings.extent → has_extent a.settings.extent images ≡ true
    → told.TellsOf a value plain bytes status → told.TellsKnown a bytes status
tells_known a value plain images bytes status one_log short reads recorded count few within tells = record {
  short = short;
  value = value;
  source = record {
    reads = reads;
    few = subst (λ (n : ℕ). n ≤ most_images a.settings.extent) count few;
    within = ap (λ (n : ℕ). has_extent a.settings.extent n) (sym count) ∙ within;
  };
  tells = subst (λ (p : LogValue). told.TellsOf a value p bytes status) (same_log one_log a.text a.settings plain reads.read recorded reads.recorded) tells;
}

pub wants_known : (a : KnownAsked) (value plain : LogValue) (images : ℕ) (bytes : List ℕ) → TextOfOneLog → length a.records ≤ 2 ^ 30 → IsLogOf a.text a.settings value
    → IsRecorded a.text a.settings plain → images ≡ length (images_of a.settings value) → images ≤ most_images a.settings.extent → has_extent a.settings.extent images ≡ true
    → WantsOf a value plain bytes → TellsWanted a bytes
wants_known a value plain images bytes one_log short reads recorded count few within wants = record {
  short = short;
  value = value;
  source = record {
    reads = reads;
    few = subst (λ (n : ℕ). n ≤ most_images a.settings.extent) count few;
    within = ap (λ (n : ℕ). has_extent a.settings.extent n) (sym count) ∙ within;
  };
  wants = subst (λ (p : LogValue). WantsOf a value p bytes) (same_log one_log a.text a.settings plain reads.read recorded reads.recorded) wants;
}

pub refuses_known : (a : KnownAsked) (value plain : LogValue) (images : ℕ) (f : KnownRunFault) → TextOfOneLog → length a.records ≤ 2 ^ 30 → (reads : IsLogOf a.text a.settings value)
    → IsRecorded a.text a.settings plain → images ≡ length (images_of a.settings value) → images ≤ most_images a.settings.extent → has_extent a.settings.extent images ≡ true
    → told.RefusesOf a value plain f → told.RefusesKnown a f
refuses_known a value plain images f one_log short reads recorded count few within why =
    told.for_rest f value
    (record {
      reads = reads;
      few = subst (λ (n : ℕ). n ≤ most_images a.settings.extent) count few;
      within = ap (λ (n : ℕ). has_extent a.settings.extent n) (sym count) ∙ within;
    })
    short (subst (λ (p : LogValue). told.RefusesOf a value p f) (same_log one_log a.text a.settings plain reads.read recorded reads.recorded) why)

-- the records, as they are made
pub those_records : (a : KnownAsked) (plain : LogValue) (runs : List KnownRun) (way : By) (records : RecordsValue) → way ≡ a.settings.by → records ≡ record { log = plain; way = way; runs = runs }
    → records ≡ told.records_of a plain runs
those_records a plain runs way records by is = is ∙ (λ i. record { log = plain; way = by i; runs = runs })

pub of_search : (a : KnownAsked) (value plain : LogValue) (runs : List KnownRun) (records : RecordsValue) (r : Refusal) → records ≡ told.records_of a plain runs → told.NoneContradicts records
    → RefusesSearch a value records r → told.RefusesBy a value plain runs (fault.Refused r)
of_search a value plain runs records _ same agree no_memory = told.no_search_memory
of_search a value plain runs records _ same agree (too_many cut are) =
    told.for_cases cut (subst (λ (v : RecordsValue). told.NoneContradicts v) same agree)
    (subst (λ (v : RecordsValue). AreTooMany (asked_losses a) value a.settings.by (asked_cuts a value) v a.stops cut) same are)

pub finds_by : (a : KnownAsked) (value plain : LogValue) (runs : List KnownRun) (records : RecordsValue) (found : List KnownAt) → records ≡ told.records_of a plain runs → told.NoneContradicts records
    → AreKnown (asked_losses a) value a.settings.by (asked_cuts a value) records a.stops found → cases_in found ≤ most_cases → told.FindsBy a value plain runs found
finds_by a value plain runs records found same agree are few = record {
  agree = subst (λ (v : RecordsValue). told.NoneContradicts v) same agree;
  are = subst (λ (v : RecordsValue). AreKnown (asked_losses a) value a.settings.by (asked_cuts a value) v a.stops found) same are;
  few = few;
}

pub contradicts : (a : KnownAsked) (value plain : LogValue) (runs : List KnownRun) (records : RecordsValue) (found : Contradiction) → records ≡ told.records_of a plain runs → IsFirst records found
    → told.RefusesBy a value plain runs (told.contradiction_fault a.records found)
contradicts a value plain runs records found same is = told.for_contradiction found (subst (λ (v : RecordsValue). IsFirst v found) same is)
