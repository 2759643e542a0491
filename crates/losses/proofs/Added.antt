-- What stays of a log, its cuts and its images where flushes are added.
use Rattle.std.proofs.Common.{ℕ, zero, suc, ◌≡◌, ◌+◌, ◌*◌, ◌<◌, Bool, true, false, cond, if◌then◌else◌, List, [], ◌∷◌, ◌++◌, filter, sum_by, count_by, take, slice_get, slice_index, slice_range, Some, None, refl, sym, ◌∙◌, ap, arith, inl, inr}
use Rattle.std.specs.Prelude.{Option}
use Rattle.std.specs.List.{range_with_len, last_or}
use Rattle.std.specs.Option.{option_map_or}
use Rattle.std.proofs.lemmas.List.Sums.{sum_by-cons}
use Rattle.base.specs.Numbers.{zeros}
use Rattle.logfmt.specs.declared.entry.Entry.{Entry}
use Rattle.logfmt.specs.Bounds.{LogValue}
use Rattle.logfmt.specs.Flushed.{with_flush, flushed_at, is_place, with_flushes}
use Rattle.logfmt.specs.Initial.{initial_byte}
use Rattle.logfmt.proofs.Flushed.{length-flushed, entry-flushed}
use Rattle.epochs.specs.declared.cuts.CutKind.{CutKind}
use Rattle.epochs.specs.declared.cuts.CutKind.TheVariants as kind
use Rattle.epochs.specs.declared.unit.Unit.{Unit as LogUnit}
use Rattle.epochs.specs.Units.{of_entries, units_of_entry, units_before, unit_content, marks_at}
use Rattle.epochs.specs.Laws.{IsOfKind}
use Rattle.choices.specs.declared.choice.Departure.{Departure}
use Rattle.images.specs.Images.{writes, byte_after, sector_after, device_after, crash_image}
use Rattle.losses.specs.WindowLaws.{FlushesWriteNothing, CutsStay}
use Rattle.losses.proofs.Away.{not_place}
use Rattle.losses.proofs.Same.{map_same}

-- the units of entries stay
own_units : (b : Bool) (e : ℕ) (x : Entry) → units_of_entry e (if b then with_flush x else x) ≡ units_of_entry e x
own_units true e x = refl
own_units false e x = refl

units_stay : (chosen : ℕ → Bool) (es : List Entry) (e k : ℕ) → of_entries units_of_entry e (take k (flushed_at chosen es)) ≡ of_entries units_of_entry e (take k es)
units_stay chosen es e zero = refl
units_stay chosen [] e (suc k) = refl
units_stay chosen (x ∷ es) e (suc k) =
    let rest = units_stay (λ n. chosen (suc n)) es (suc e) k in
    ap (λ us. us ++ of_entries units_of_entry (suc e) (take k (flushed_at (λ n. chosen (suc n)) es))) (own_units (chosen 0) e x)
    ∙ ap (λ us. units_of_entry e x ++ us) rest

-- and what is taken of one entry, where its flush flag makes no difference
one_stays : {A : Type 0} (f : Entry → A) (none : A) (chosen : ℕ → Bool) (es : List Entry) (i : ℕ) → ((b : Bool) (x : Entry) → f (if b then with_flush x else x) ≡ f x)
    → option_map_or f (slice_get (flushed_at chosen es) i) none ≡ option_map_or f (slice_get es i) none
one_stays f none chosen [] i same = refl
one_stays f none chosen (x ∷ es) zero same = same (chosen 0) x
one_stays f none chosen (x ∷ es) (suc i) same = one_stays f none (λ n. chosen (suc n)) es i same

abbrev bytes_of : LogUnit → Entry → List ℕ
bytes_of u x = if x.flags.discard then zeros 512 else slice_range x.content (512 * u.place) (512 * u.place + 512)

own_content : (u : LogUnit) (b : Bool) (x : Entry) → bytes_of u (if b then with_flush x else x) ≡ bytes_of u x
own_content u true x = refl
own_content u false x = refl

content_stays : (chosen : ℕ → Bool) (es : List Entry) (u : LogUnit) → unit_content (flushed_at chosen es) u ≡ unit_content es u
unfolding unit_content
content_stays chosen es u =
    one_stays (bytes_of u) [] chosen es u.entry (own_content u)

map_or_same : {A B : Type 0} (f g : A → B) (o : Option A) (none : B) → ((x : A) → f x ≡ g x) → option_map_or f o none ≡ option_map_or g o none
map_or_same f g None none same = refl
map_or_same f g (Some x) none same = same x

-- byte for byte
byte : (log : LogValue) (places : List ℕ) (cut : ℕ) (ds : List Departure) (s i : ℕ)
    → byte_after (with_flushes places log) (units_before (with_flushes places log).entries cut) ds s i ≡ byte_after log (units_before log.entries cut) ds s i
unfolding byte_after
byte log places cut ds s i =
    let es = log.entries in
    let now : List Entry = flushed_at (is_place places) es in
    ap (λ us. option_map_or (λ (u : LogUnit). slice_index (unit_content now u) i) (last_or None (filter (writes ds s i) us)) (initial_byte log.initial s i)) (units_stay (is_place places) es 0 cut)
    ∙ map_or_same (λ (u : LogUnit). slice_index (unit_content now u) i) (λ (u : LogUnit). slice_index (unit_content es u) i) (last_or None (filter (writes ds s i) (units_before es cut))) (initial_byte log.initial s i)
    (λ u. ap (λ bytes. slice_index bytes i) (content_stays (is_place places) es u))

device : (log : LogValue) (places : List ℕ) (cut : ℕ) (ds : List Departure) → crash_image (with_flushes places log) cut ds ≡ crash_image log cut ds
unfolding device_after sector_after
device log places cut ds =
    let now : LogValue = with_flushes places log in
    map_same (sector_after now (units_before now.entries cut) ds) (sector_after log (units_before log.entries cut) ds) (range_with_len 0 log.sectors)
    (λ s. map_same (byte_after now (units_before now.entries cut) ds s) (byte_after log (units_before log.entries cut) ds s) (range_with_len 0 512)
    (λ i. byte log places cut ds s i))

-- the marks
own_mark : (b : Bool) (x : Entry) → (if b then with_flush x else x).flags.mark ≡ x.flags.mark
own_mark true x = refl
own_mark false x = refl

marks : (chosen : ℕ → Bool) (es : List Entry) (k : ℕ) → marks_at (flushed_at chosen es) k ≡ marks_at es k
marks chosen es zero = refl
marks chosen [] (suc k) = refl
marks chosen (x ∷ es) (suc k) =
    let one : Entry → ℕ = λ (entry : Entry). cond entry.flags.mark 1 0 in
    let here : Entry = if chosen 0 then with_flush x else x in
    let others : List Entry = take k (flushed_at (λ n. chosen (suc n)) es) in
    let rest : sum_by one others ≡ sum_by one (take k es) = marks (λ n. chosen (suc n)) es k in
    let own : one here ≡ one x = ap (λ b. cond b 1 0) (own_mark (chosen 0) x) in
    sum_by-cons one here others ∙ ap (λ n. n + sum_by one others) own ∙ ap (λ n. one x + n) rest ∙ sym (sum_by-cons one x (take k es))

-- the entries before all that are chosen
first_stay : (chosen : ℕ → Bool) (es : List Entry) (k : ℕ) → ((n : ℕ) → n < k → chosen n ≡ false) → take k (flushed_at chosen es) ≡ take k es
first_stay chosen es zero none = refl
first_stay chosen [] (suc k) none = refl
first_stay chosen (x ∷ es) (suc k) none =
    let rest = first_stay (λ n. chosen (suc n)) es k (λ n less. none (suc n) (omega (arith, less))) in
    ap (λ (b : Bool). (if b then with_flush x else x) ∷ take k (flushed_at (λ n. chosen (suc n)) es)) (none 0 (omega arith)) ∙ ap (λ xs. x ∷ xs) rest

pub flushes_write_nothing : FlushesWriteNothing
flushes_write_nothing log places cut ds = (
  device log places cut ds,
  marks (is_place places) log.entries cut,
  λ none. ap (count_by (λ (entry : Entry). entry.flags.flush)) (first_stay (is_place places) log.entries cut (λ n less.
      not_place places n (λ i p there same. let from = none i p there in absurd (omega (arith, from, same, less))))),
)

-- a cut of a kind
own_flush : (b : Bool) (x : Entry) → x.flags.flush ≡ true → (if b then with_flush x else x).flags.flush ≡ true
own_flush true x is = refl
own_flush false x is = is

kind_stays : (what : CutKind) (chosen : ℕ → Bool) (es : List Entry) (k : ℕ) → IsOfKind what es k → IsOfKind what (flushed_at chosen es) k
kind_stays kind.All chosen es k is = let long = length-flushed chosen es in omega (arith, long, is)
kind_stays kind.BeforeFlush chosen es k is =
    elim is [
      | inl end ↦ inl (end ∙ sym (length-flushed chosen es))
      | inr flush ↦ inr ((if chosen k then with_flush flush.0 else flush.0), entry-flushed chosen es k flush.0 flush.1, own_flush (chosen k) flush.0 flush.2)
    ]
kind_stays kind.AfterMark chosen es k is =
    (is.0, (if chosen is.0 then with_flush is.1 else is.1), is.2, entry-flushed chosen es is.0 is.1 is.3, own_mark (chosen is.0) is.1 ∙ is.4)

pub cuts_stay : CutsStay
cuts_stay wanted log places cut is = record {
  of_kind = kind_stays wanted.kind (is_place places) log.entries cut is.of_kind;
  beyond = is.beyond;
  before = is.before;
}
