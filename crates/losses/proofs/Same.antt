-- What departs up to the end of a window leaves, right after it, what all departures leave at the cut.
use Rattle.std.proofs.Common.{ℕ, zero, suc, ◌≡◌, ◌==◌, ◌+◌, ◌-◌, ◌<◌, ◌≤◌, nat_le, nat_lt, Bool, true, false, not, ◌&&◌, ◌||◌, if◌then◌else◌, List, [], ◌∷◌, ◌++◌, length, map, filter, count_by, take, slice_get, slice_index, Some, None, refl, sym, ◌∙◌, ap, subst, arith, add-one, inl, inr}
use Rattle.std.specs.List.{list_all, range_with_len, last_or}
use Rattle.std.specs.Option.{option_map_or}
use Rattle.std.proofs.lemmas.Bool.Decides.{eqb_tells, nat_tests}
use Rattle.std.proofs.lemmas.List.{append-nil}
use Rattle.std.proofs.lemmas.List.Elements.{filter-append}
use Rattle.std.proofs.lemmas.Option.{slice_get_cases, slice_get_within}
use Rattle.base.proofs.Lists.{filter-map_alike, filter_none, take-suc_place, count_by-push}
use Rattle.logfmt.specs.declared.entry.Entry.{Entry}
use Rattle.logfmt.specs.Bounds.{LogValue, IsLog}
use Rattle.logfmt.specs.Initial.{initial_byte}
use Rattle.logfmt.proofs.Flushed.{flushed-none}
use Rattle.epochs.specs.declared.part.By.{By}
use Rattle.epochs.specs.declared.part.By.TheVariants as by
use Rattle.epochs.specs.declared.unit.Unit.{Unit as LogUnit}
use Rattle.epochs.specs.Units.{unit_of, units_of_entry, units_before, unit_content, marks_at, epoch_at}
use Rattle.epochs.specs.Cuts.{is_flush_at}
use Rattle.epochs.specs.Parts.{part_size, part_count}
use Rattle.epochs.specs.Laws.{IsVolatile}
use Rattle.epochs.proofs.Growth.{units_before-next}
use Rattle.choices.specs.declared.fate.Fate.{Fate}
use Rattle.choices.specs.declared.fate.Fate.TheVariants as fate
use Rattle.choices.specs.declared.choice.Departure.{Departure}
use Rattle.choices.specs.CrashModel.{IsAdmissible}
use Rattle.images.specs.Images.{keeps, is_in, byte_in, survives, writes, byte_after, sector_after, device_after, crash_image}
use Rattle.losses.specs.Windows.{is_drop, drops, entry_arrives, is_end, HasNoWindow}
use Rattle.losses.specs.WindowLaws.{only_of, SameIsLeft, IsOfCutAfter, IsOfCutBefore, NothingElseIsLost}
use Rattle.losses.proofs.Away.{kept_from, kept_two, first_entry, leaves, same_number, other_number}

-- of a test of all
and_false : (b : Bool) → (b && false) ≡ false
and_false true = refl
and_false false = refl

or_true : (b : Bool) → (b || true) ≡ true
or_true true = refl
or_true false = refl

or_right : (a b : Bool) → (a || b) ≡ false → b ≡ false
or_right true b h = let bad : true ≡ false = h in cc
or_right false b h = h

one_fails : (test : Departure → Bool) (ds : List Departure) (k : ℕ) (d : Departure) → slice_get ds k ≡ Some d → test d ≡ false → list_all test ds ≡ false
one_fails test [] k d there fails = absurd (let bad : None ≡ Some d = there in cc)
one_fails test (x ∷ ds) zero d there fails =
    let same : x ≡ d = cc in
    let own : test x ≡ false = ap test same ∙ fails in
    rw own refl
one_fails test (x ∷ ds) (suc k) d there fails = rw (one_fails test ds k d there fails) (and_false (test x))

all_alike : (test p : Departure → Bool) (ds : List Departure) → ((d : Departure) (k : ℕ) → slice_get ds k ≡ Some d → p d ≡ false → test d ≡ true)
    → list_all test ds ≡ list_all test (filter p ds)
all_alike test p [] passes = refl
all_alike test p (x ∷ ds) passes = by_test (all_alike test p ds (λ d k there fails. passes d (suc k) there fails)) (p x) refl
  where
    by_test : list_all test ds ≡ list_all test (filter p ds) → (b : Bool) → p x ≡ b → (test x && list_all test ds) ≡ list_all test (if b then x ∷ filter p ds else filter p ds)
    by_test rest true is = ap (λ v. test x && v) rest
    by_test rest false is = let own = passes x 0 refl is in rw own rest

-- a unit of a part that is lost
lost : (ds : List Departure) (s i k : ℕ) (u : LogUnit) (d : Departure) → slice_get ds k ≡ Some d → is_drop d.fate ≡ true → is_in d.part u ≡ true → writes ds s i u ≡ false
unfolding writes survives
lost ds s i k u d there dropped inside =
    let test : Departure → Bool = λ d. not (is_in d.part u) || keeps d.fate d.part.count (byte_in d.part u i) in
    let none : (f : Fate) → is_drop f ≡ true → keeps f d.part.count (byte_in d.part u i) ≡ false =
    λ f. elim f as (λ v. is_drop v ≡ true → keeps v d.part.count (byte_in d.part u i) ≡ false) [
      | fate.Drop ↦ λ h. refl
      | fate.Head t ↦ λ h. absurd (let bad : false ≡ true = h in cc)
      | fate.Tail t ↦ λ h. absurd (let bad : false ≡ true = h in cc)
    ] in
    let fails : test d ≡ false = rw (inside, none d.fate dropped) refl in
    rw (one_fails test ds k d there fails) (and_false (u.sector == s))

-- strictly rising numbers below n, at least n of them: the j-th is j
low : (ds : List Departure) → ((i j : ℕ) (c d : Departure) → i < j → slice_get ds i ≡ Some c → slice_get ds j ≡ Some d → c.part.place < d.part.place)
    → (i : ℕ) (d : Departure) → slice_get ds i ≡ Some d → i ≤ d.part.place
low ds rising zero d there = omega arith
low ds rising (suc i) d there =
    elim (slice_get_cases ds i).1 [
      | inl a ↦
          let before = low ds rising i a.0 a.2 in
          let less = rising i (suc i) a.0 d (omega arith) a.2 there in
          omega (arith, before, less)
      | inr past ↦ let within = slice_get_within ds (suc i) d there in let end = past.0 in absurd (omega (arith, within, end))
    ]

high : (ds : List Departure) (n : ℕ) → ((i j : ℕ) (c d : Departure) → i < j → slice_get ds i ≡ Some c → slice_get ds j ≡ Some d → c.part.place < d.part.place)
    → ((i : ℕ) (d : Departure) → slice_get ds i ≡ Some d → d.part.place < n)
    → (k i : ℕ) (c : Departure) → slice_get ds i ≡ Some c → i + k < length ds → c.part.place + k < n
high ds n rising below zero i c here within = let own = below i c here in omega (arith, own)
high ds n rising below (suc k) i c here within =
    elim (slice_get_cases ds (suc i)).1 [
      | inl a ↦
          let rest = high ds n rising below k (suc i) a.0 a.2 (omega (arith, within)) in
          let less = rising i (suc i) c a.0 (omega arith) here a.2 in
          omega (arith, rest, less)
      | inr past ↦ let end = past.0 in absurd (omega (arith, within, end))
    ]

full : (ds : List Departure) (n j : ℕ) → ((i j : ℕ) (c d : Departure) → i < j → slice_get ds i ≡ Some c → slice_get ds j ≡ Some d → c.part.place < d.part.place)
    → ((i : ℕ) (d : Departure) → slice_get ds i ≡ Some d → d.part.place < n) → n ≤ length ds → j < n
    → (d : Departure) × (slice_get ds j ≡ Some d) × (d.part.place ≡ j)
full ds n j rising below many inside =
    elim (slice_get_cases ds j).1 [
      | inl a ↦
          let least = low ds rising j a.0 a.2 in
          let most = high ds n rising below (length ds - (j + 1)) j a.0 a.2 (omega (arith, inside, many)) in
          (a.0, a.2, omega (arith, least, most, many, inside))
      | inr past ↦ let end = past.0 in absurd (omega (arith, end, inside, many))
    ]

-- each unit of an entry of which nothing arrived is in a part that is lost
by_write : (way : By) (es : List Entry) (e j : ℕ) (x : Entry) (d : Departure) → way ≡ by.Write → slice_get es e ≡ Some x → j < x.count → d.part.entry ≡ e
    → (cut : ℕ) → IsVolatile way es cut d.part → is_in d.part (unit_of e x j) ≡ true
by_write way es e j x d is here inside own cut volatile =
    let at : slice_get es d.part.entry ≡ Some x = ap (slice_get es) own ∙ here in
    let same : volatile.entry ≡ x = let both : Some volatile.entry ≡ Some x = sym volatile.there ∙ at in cc in
    let size : d.part.count ≡ x.count = volatile.count ∙ ap (λ v. part_size v volatile.entry) is ∙ ap (λ (y : Entry). y.count) same in
    let count : volatile.entry.count ≡ x.count = ap (λ (y : Entry). y.count) same in
    let within = volatile.inside in
    let first : d.part.place ≡ 0 = omega (arith, size, count, within) in
    let entry : (d.part.entry == e) ≡ true = grind (arith, nat_tests, own) in
    let from : nat_le d.part.place j ≡ true = grind (arith, nat_tests, first) in
    let to : nat_lt j (d.part.place + d.part.count) ≡ true = grind (arith, nat_tests, size, inside) in
    rw (entry, from, to) refl

by_sector : (way : By) (es : List Entry) (e j : ℕ) (x : Entry) (d : Departure) → way ≡ by.Sector → d.part.entry ≡ e → d.part.place ≡ j
    → (cut : ℕ) → IsVolatile way es cut d.part → is_in d.part (unit_of e x j) ≡ true
by_sector way es e j x d is own place cut volatile =
    let size : d.part.count ≡ 1 = volatile.count ∙ ap (λ v. part_size v volatile.entry) is in
    let entry : (d.part.entry == e) ≡ true = grind (arith, nat_tests, own) in
    let from : nat_le d.part.place j ≡ true = grind (arith, nat_tests, place) in
    let to : nat_lt j (d.part.place + d.part.count) ≡ true = grind (arith, nat_tests, size, place) in
    rw (entry, from, to) refl

-- what a departure that drops a part of an entry is
of_entry : (e : ℕ) (d : Departure) → drops e d ≡ true → (d.part.entry ≡ e) × (is_drop d.fate ≡ true)
of_entry e d is =
    elim (eqb_tells d.part.entry e) [
      | inl same ↦ (same.1, let own : is_drop d.fate ≡ true = sym (ap (λ v. v && is_drop d.fate) same.0) ∙ is in own)
      | inr other ↦ let bad : false ≡ true = sym (ap (λ v. v && is_drop d.fate) other.0) ∙ is in cc
    ]

abbrev IsLost : List Departure → ℕ → Entry → ℕ → Type 0
IsLost ds e x j = (k : ℕ) × (d : Departure) × (slice_get ds k ≡ Some d) × (is_drop d.fate ≡ true) × (is_in d.part (unit_of e x j) ≡ true)

found : (way : By) (es : List Entry) (cut bound : ℕ) (tears : Bool) (ds : List Departure) (e j : ℕ) (x : Entry)
    → IsAdmissible way es cut bound tears ds → slice_get es e ≡ Some x → part_count way x ≤ length (filter (drops e) ds) → j < x.count → IsLost ds e x j
found by.Write es cut bound tears ds e j x is here many inside =
    let some : (x.count == 0) ≡ false = grind (arith, nat_tests, inside) in
    let one : part_count by.Write x ≡ 1 = rw some refl in
    elim (slice_get_cases (filter (drops e) ds) 0).1 [
      | inl a ↦
          let was = kept_from (drops e) ds 0 a.0 a.2 in
          let own = of_entry e a.0 was.2 in
          (was.0, a.0, was.1, own.1, by_write by.Write es e j x a.0 refl here inside own.0 cut (is.volatile was.0 a.0 was.1))
      | inr past ↦ let end = past.0 in absurd (omega (arith, end, many, one))
    ]
found by.Sector es cut bound tears ds e j x is here many inside =
    let rising : (a b : ℕ) (c d : Departure) → a < b → slice_get (filter (drops e) ds) a ≡ Some c → slice_get (filter (drops e) ds) b ≡ Some d → c.part.place < d.part.place =
    λ a b c d less first second.
    let both = kept_two (drops e) ds a b c d less first second in
    let one = of_entry e c (kept_from (drops e) ds a c first).2 in
    let two = of_entry e d (kept_from (drops e) ds b d second).2 in
    elim (is.rising both.0 both.1 c d both.2 both.3 both.4) [
      | inl before ↦ let left = one.0 in let right = two.0 in absurd (omega (arith, before, left, right))
      | inr same ↦ same.1
    ] in
    let below : (a : ℕ) (d : Departure) → slice_get (filter (drops e) ds) a ≡ Some d → d.part.place < x.count =
    λ a d there.
    let was = kept_from (drops e) ds a d there in
    let own = of_entry e d was.2 in
    let volatile = is.volatile was.0 d was.1 in
    let at : slice_get es d.part.entry ≡ Some x = ap (slice_get es) own.0 ∙ here in
    let same : volatile.entry ≡ x = let both : Some volatile.entry ≡ Some x = sym volatile.there ∙ at in cc in
    let count : volatile.entry.count ≡ x.count = ap (λ (y : Entry). y.count) same in
    let within = volatile.inside in
    let some = volatile.some in
    omega (arith, within, count, some) in
    let one = full (filter (drops e) ds) x.count j rising below many inside in
    let was = kept_from (drops e) ds j one.0 one.1 in
    let own = of_entry e one.0 was.2 in
    (was.0, one.0, was.1, own.1, by_sector by.Sector es e j x one.0 refl own.0 one.2 cut (is.volatile was.0 one.0 was.1))

-- of the units of such an entry none reaches the device
none_of_range : (test : LogUnit → Bool) (f : ℕ → LogUnit) (a n : ℕ) → ((j : ℕ) → a ≤ j → j < a + n → test (f j) ≡ false) → filter test (map f (range_with_len a n)) ≡ []
none_of_range test f a zero fails = refl
none_of_range test f a (suc n) fails =
    let own : test (f a) ≡ false = fails a (omega arith) (omega arith) in
    rw own (none_of_range test f (a + 1) n (λ j from to. fails j (omega (arith, from)) (omega (arith, to))))

none_written : (way : By) (es : List Entry) (cut bound : ℕ) (tears : Bool) (ds : List Departure) (e s i : ℕ) (x : Entry)
    → IsAdmissible way es cut bound tears ds → slice_get es e ≡ Some x → is_end way es ds e ≡ false → filter (writes ds s i) (units_of_entry e x) ≡ []
none_written way es cut bound tears ds e s i x is here none =
    let test : (x.flags.mark || entry_arrives way ds e x) ≡ false = sym (ap (λ o. option_map_or (λ (entry : Entry). entry.flags.mark || entry_arrives way ds e entry) o false) here) ∙ none in
    let few : nat_lt (length (filter (drops e) ds)) (part_count way x) ≡ false = or_right x.flags.mark (entry_arrives way ds e x) test in
    let many : part_count way x ≤ length (filter (drops e) ds) = grind (arith, nat_tests, few) in
    none_of_range (writes ds s i) (unit_of e x) 0 x.count (λ j from to.
    let own = found way es cut bound tears ds e j x is here many (omega (arith, to)) in
    lost ds s i own.0 (unit_of e x j) own.1 own.2 own.3 own.4)

-- from a cut on no entry before another may end a window
abbrev pub Calm : By → List Entry → ℕ → List Departure → ℕ → Type 0
Calm way es cut ds at = (e : ℕ) → at ≤ e → e < cut → is_end way es ds e ≡ false

-- those of some departures that a test leaves out are of entries from a cut on
abbrev pub Late : List Departure → (Departure → Bool) → ℕ → Type 0
Late ds p at = (d : Departure) (k : ℕ) → slice_get ds k ≡ Some d → p d ≡ false → at ≤ d.part.entry

-- after that cut nothing arrived
beyond : (way : By) (es : List Entry) (cut bound at : ℕ) (tears : Bool) (ds : List Departure) (s i n : ℕ)
    → cut ≤ length es → Calm way es cut ds at → IsAdmissible way es cut bound tears ds → at + n ≤ cut
    → filter (writes ds s i) (units_before es (at + n)) ≡ filter (writes ds s i) (units_before es at)
beyond way es cut bound at tears ds s i zero inside calm admissible within = let same : at + 0 ≡ at = omega arith in ap (λ k. filter (writes ds s i) (units_before es k)) same
beyond way es cut bound at tears ds s i (suc n) inside calm admissible within =
    let k : ℕ = at + n in
    let next : at + suc n ≡ suc k = omega arith in
    let rest = beyond way es cut bound at tears ds s i n inside calm admissible (omega (arith, within)) in
    elim (slice_get_cases es k).1 [
      | inl a ↦
          let none = none_written way es cut bound tears ds k s i a.0 admissible a.2 (calm k (omega arith) (omega (arith, within))) in
          ap (λ m. filter (writes ds s i) (units_before es m)) next
          ∙ ap (filter (writes ds s i)) (units_before-next es k a.0 a.2)
          ∙ filter-append (writes ds s i) (units_before es k) (units_of_entry k a.0)
          ∙ ap (λ us. filter (writes ds s i) (units_before es k) ++ us) none ∙ append-nil (filter (writes ds s i) (units_before es k)) ∙ rest
      | inr past ↦ let end = past.0 in absurd (omega (arith, end, within, inside))
    ]

-- up to it the later departures make no difference
alike : (es : List Entry) (ds : List Departure) (p : Departure → Bool) (at s i : ℕ) (k : ℕ) → k ≤ at → k ≤ length es → Late ds p at
    → filter (writes (filter p ds) s i) (units_before es k) ≡ filter (writes ds s i) (units_before es k)
unfolding writes survives
alike es ds p at s i zero within inside late = refl
alike es ds p at s i (suc k) within inside late =
    let rest = alike es ds p at s i k (omega (arith, within)) (omega (arith, inside)) late in
    elim (slice_get_cases es k).1 [
      | inl a ↦
          let one : (j : ℕ) → writes (filter p ds) s i (unit_of k a.0 j) ≡ writes ds s i (unit_of k a.0 j) =
          λ j. ap (λ v. ((unit_of k a.0 j).sector == s) && v)
          (sym (all_alike (λ (d : Departure). not (is_in d.part (unit_of k a.0 j)) || keeps d.fate d.part.count (byte_in d.part (unit_of k a.0 j) i)) p ds
          (λ d number there fails.
          let from = late d number there fails in
          let other : (d.part.entry == k) ≡ false = grind (arith, nat_tests, from, within) in
          rw other refl))) in
          let own = filter-map_alike (writes (filter p ds) s i) (writes ds s i) (unit_of k a.0) (range_with_len 0 a.0.count) one in
          ap (filter (writes (filter p ds) s i)) (units_before-next es k a.0 a.2)
          ∙ filter-append (writes (filter p ds) s i) (units_before es k) (units_of_entry k a.0)
          ∙ ap (λ us. us ++ filter (writes (filter p ds) s i) (units_of_entry k a.0)) rest
          ∙ ap (λ us. filter (writes ds s i) (units_before es k) ++ us) own
          ∙ sym (ap (filter (writes ds s i)) (units_before-next es k a.0 a.2) ∙ filter-append (writes ds s i) (units_before es k) (units_of_entry k a.0))
      | inr past ↦ let end = past.0 in absurd (omega (arith, end, inside))
    ]

or_left : (a b : Bool) → (a || b) ≡ false → a ≡ false
or_left true b h = let bad : true ≡ false = h in cc
or_left false b h = refl

-- a count of entries of which none stands after a cut
still : (test : Entry → Bool) (es : List Entry) (at n : ℕ) → at + n ≤ length es
    → ((e : ℕ) (x : Entry) → at ≤ e → e < at + n → slice_get es e ≡ Some x → test x ≡ false) → count_by test (take (at + n) es) ≡ count_by test (take at es)
still test es at zero inside none = let same : at + 0 ≡ at = omega arith in ap (λ k. count_by test (take k es)) same
still test es at (suc n) inside none =
    let k : ℕ = at + n in
    let next : at + suc n ≡ suc k = omega arith in
    let rest = still test es at n (omega (arith, inside)) (λ e x from to there. none e x from (omega (arith, to)) there) in
    elim (slice_get_cases es k).1 [
      | inl a ↦
          let fails : test a.0 ≡ false = none k a.0 (omega arith) (omega arith) a.2 in
          let own : Bool → ℕ = λ b. if b then 1 else 0 in
          let more : count_by test (take (suc k) es) ≡ count_by test (take k es) + own (test a.0) = ap (count_by test) (take-suc_place es k a.0 a.2) ∙ count_by-push test (take k es) a.0 in
          let nothing : own (test a.0) ≡ own false = ap own fails in
          ap (λ m. count_by test (take m es)) next ∙ more ∙ omega (arith, nothing) ∙ rest
      | inr past ↦ let end = past.0 in absurd (omega (arith, end, inside))
    ]

-- from a cut to a later one
still_to : (test : Entry → Bool) (es : List Entry) (at cut : ℕ) → at ≤ cut → cut ≤ length es
    → ((e : ℕ) (x : Entry) → at ≤ e → e < cut → slice_get es e ≡ Some x → test x ≡ false) → count_by test (take at es) ≡ count_by test (take cut es)
still_to test es at cut order inside none =
    let n : ℕ = cut - at in
    let end : at + n ≡ cut = omega (arith, order) in
    sym (still test es at n (omega (arith, end, inside)) (λ e x from to there. none e x from (omega (arith, to, end)) there)) ∙ ap (λ k. count_by test (take k es)) end

-- no mark stands after the cut
marks : (way : By) (es : List Entry) (cut at : ℕ) (ds : List Departure) → at ≤ cut → cut ≤ length es → Calm way es cut ds at → marks_at es at ≡ marks_at es cut
marks way es cut at ds order inside calm =
    still_to (λ (entry : Entry). entry.flags.mark) es at cut order inside (λ e x from to there.
    let test : (x.flags.mark || entry_arrives way ds e x) ≡ false = sym (ap (λ o. option_map_or (λ (entry : Entry). entry.flags.mark || entry_arrives way ds e entry) o false) there) ∙ calm e from to in
    or_left x.flags.mark (entry_arrives way ds e x) test)

-- and no flush entry, after an entry of which something departs
same_epoch : (way : By) (es : List Entry) (cut at bound : ℕ) (tears : Bool) (ds : List Departure) (first : Departure) → at ≤ cut → cut ≤ length es
    → IsAdmissible way es cut bound tears ds → slice_get ds 0 ≡ Some first → first.part.entry < at → epoch_at es at ≡ epoch_at es cut
same_epoch way es cut at bound tears ds first order inside admissible there beyond =
    still_to (λ (entry : Entry). entry.flags.flush) es at cut order inside (λ e x from to here.
    (admissible.volatile 0 first there).flushed e x (omega (arith, beyond, from)) to here)

pub map_same : {A B : Type 0} (f g : A → B) (xs : List A) → ((x : A) → f x ≡ g x) → map f xs ≡ map g xs
map_same f g [] same = refl
map_same f g (x ∷ xs) same = rw (same x, map_same f g xs same) refl

-- byte for byte
byte : (way : By) (log : LogValue) (cut bound at : ℕ) (tears : Bool) (ds : List Departure) (p : Departure → Bool) (s i : ℕ)
    → cut ≤ length log.entries → at ≤ cut → Calm way log.entries cut ds at → Late ds p at → IsAdmissible way log.entries cut bound tears ds
    → byte_after log (units_before log.entries at) (filter p ds) s i ≡ byte_after log (units_before log.entries cut) ds s i
unfolding byte_after
byte way log cut bound at tears ds p s i inside order calm late admissible =
    let es = log.entries in
    let n : ℕ = cut - at in
    let end : at + n ≡ cut = omega (arith, order) in
    let up = alike es ds p at s i at (omega arith) (omega (arith, order, inside)) late in
    let rest = beyond way es cut bound at tears ds s i n inside calm admissible (omega (arith, end)) in
    let all : filter (writes (filter p ds) s i) (units_before es at) ≡ filter (writes ds s i) (units_before es cut) =
    up ∙ sym rest ∙ ap (λ k. filter (writes ds s i) (units_before es k)) end in
    ap (λ us. option_map_or (λ (u : LogUnit). slice_index (unit_content es u) i) (last_or None us) (initial_byte log.initial s i)) all

device : (way : By) (log : LogValue) (cut bound at : ℕ) (tears : Bool) (ds : List Departure) (p : Departure → Bool)
    → cut ≤ length log.entries → at ≤ cut → Calm way log.entries cut ds at → Late ds p at → IsAdmissible way log.entries cut bound tears ds
    → crash_image log at (filter p ds) ≡ crash_image log cut ds
unfolding device_after sector_after
device way log cut bound at tears ds p inside order calm late admissible =
    let es = log.entries in
    map_same (sector_after log (units_before es at) (filter p ds)) (sector_after log (units_before es cut) ds) (range_with_len 0 log.sectors)
    (λ s. map_same (byte_after log (units_before es at) (filter p ds) s) (byte_after log (units_before es cut) ds s) (range_with_len 0 512)
    (λ i. byte way log cut bound at tears ds p s i inside order calm late admissible))

pub same_is_left : SameIsLeft
same_is_left way log cut bound tears ds w inside is admissible =
    let es = log.entries in
    let before = is.before in
    let start = is.start in
    let order = is.order in
    let early : w.end + 1 ≤ cut = omega (arith, before) in
    let calm : Calm way es cut ds (w.end + 1) = λ e from to. is.last e (omega (arith, from)) to in
    let late : Late ds (λ (d : Departure). nat_le d.part.entry w.end) (w.end + 1) =
    λ d k there fails.
    let test : nat_le d.part.entry w.end ≡ false = fails in
    grind (arith, nat_tests, test) in (
      device way log cut bound (w.end + 1) tears ds (λ (d : Departure). nat_le d.part.entry w.end) inside early calm late admissible,
      marks way es cut (w.end + 1) ds early inside calm,
      same_epoch way es cut (w.end + 1) bound tears ds is.first early inside admissible is.departs (omega (arith, start, order)),
    )

-- no window: the cut right after the first entry of which something departs
beyond_first : (way : By) (log : LogValue) (cut bound : ℕ) (tears : Bool) (ds : List Departure) (first : Departure) (f : ℕ)
    → first.part.entry ≡ f → cut ≤ length log.entries → HasNoWindow way log.entries cut ds → IsAdmissible way log.entries cut bound tears ds
    → slice_get ds 0 ≡ Some first → IsOfCutAfter way log cut bound tears ds f
beyond_first way log cut bound tears ds first f own inside none admissible there =
    let es = log.entries in
    let before = (admissible.volatile 0 first there).before in
    let early : f + 1 ≤ cut = omega (arith, before, own) in
    let calm : Calm way es cut ds (f + 1) = λ e from to. none first e there (omega (arith, from, own)) to in
    let late : Late ds (λ (d : Departure). d.part.entry == f) (f + 1) =
    λ d k here fails.
    let least = first_entry way es cut bound tears ds first d k admissible there here in
    let apart = other_number d.part.entry f fails in
    omega (arith, least, own, apart) in
    record {
      order = early;
      choice = subst (λ (xs : List Entry). IsAdmissible way xs (f + 1) bound tears (only_of f ds)) (flushed-none es)
          (leaves way es cut bound (f + 1) tears ds (λ (d : Departure). d.part.entry == f) (λ n. false) admissible early
          (λ d k here passes. let same = same_number d.part.entry f passes in omega (arith, same))
          (λ d k g here passes later sooner. refl));
      device = device way log cut bound (f + 1) tears ds (λ (d : Departure). d.part.entry == f) inside early calm late admissible;
      marks = marks way es cut (f + 1) ds early inside calm;
      epoch = same_epoch way es cut (f + 1) bound tears ds first early inside admissible there (omega (arith, own));
    }

-- and the cut before that entry, where nothing of it arrived
before_first : (way : By) (log : LogValue) (cut bound : ℕ) (tears : Bool) (ds : List Departure) (first : Departure) (entry : Entry) (f : ℕ)
    → first.part.entry ≡ f → IsLog log → cut ≤ length log.entries → HasNoWindow way log.entries cut ds → IsAdmissible way log.entries cut bound tears ds
    → slice_get ds 0 ≡ Some first → slice_get log.entries f ≡ Some entry → entry_arrives way ds f entry ≡ false → IsOfCutBefore log cut ds f
before_first way log cut bound tears ds first entry f own bounds inside none admissible there here none_arrived =
    let es = log.entries in
    let volatile = admissible.volatile 0 first there in
    let before = volatile.before in
    let early : f + 1 ≤ cut = omega (arith, before, own) in
    let at : slice_get es first.part.entry ≡ Some entry = ap (slice_get es) own ∙ here in
    let same : volatile.entry ≡ entry = let both : Some volatile.entry ≡ Some entry = sym volatile.there ∙ at in cc in
    let unmarked : entry.flags.mark ≡ false =
    by_mark entry.flags.mark refl (λ m.
    let empty : entry.count ≡ 0 = ((bounds.entries f entry here).mark m).count in
    let some = volatile.some in
    let within = volatile.inside in
    let count = ap (λ (x : Entry). x.count) same in
    absurd (omega (arith, empty, some, within, count))) in
    let calm : Calm way es cut ds f =
    λ e from to.
    elim (eqb_tells e f) [
      | inl is ↦
          let there_too : slice_get es e ≡ Some entry = ap (slice_get es) is.1 ∙ here in
          let test : (entry.flags.mark || entry_arrives way ds f entry) ≡ false = ap (λ b. b || entry_arrives way ds f entry) unmarked ∙ none_arrived in
          ap (λ o. option_map_or (λ (x : Entry). x.flags.mark || entry_arrives way ds e x) o false) there_too
          ∙ ap (λ n. entry.flags.mark || entry_arrives way ds n entry) is.1 ∙ test
      | inr other ↦ let apart = other.1 in none first e there (omega (arith, from, own, apart)) to
    ] in
    let late : Late ds (λ (d : Departure). false) f =
    λ d k at_k fails.
    let least = first_entry way es cut bound tears ds first d k admissible there at_k in
    omega (arith, least, own) in
    let order : f ≤ cut = omega (arith, early) in
    let nothing : filter (λ (d : Departure). false) ds ≡ [] = filter_none (λ (d : Departure). false) ds (λ d. refl) in
    let count : Bool → ℕ = λ b. if b then 1 else 0 in
    let flush : is_flush_at es f ≡ entry.flags.flush = ap (λ o. option_map_or (λ (x : Entry). x.flags.flush) o false) here in
    let more : epoch_at es (suc f) ≡ epoch_at es f + count entry.flags.flush =
    ap (count_by (λ (x : Entry). x.flags.flush)) (take-suc_place es f entry here) ∙ count_by-push (λ (x : Entry). x.flags.flush) (take f es) entry in
    record {
      device = ap (λ xs. crash_image log f xs) (sym nothing) ∙ device way log cut bound f tears ds (λ (d : Departure). false) inside order calm late admissible;
      marks = marks way es cut f ds order inside calm;
      epoch = sym (same_epoch way es cut (f + 1) bound tears ds first early inside admissible there (omega (arith, own))) ∙ ap (epoch_at es) (add-one f) ∙ more
          ∙ ap (λ b. epoch_at es f + count b) (sym flush);
    }
  where
    by_mark : (b : Bool) → entry.flags.mark ≡ b → (entry.flags.mark ≡ true → entry.flags.mark ≡ false) → entry.flags.mark ≡ false
    by_mark true is never = never is
    by_mark false is never = is

pub nothing_else_is_lost : NothingElseIsLost
nothing_else_is_lost way log cut bound tears ds first bounds inside none admissible there = (
  beyond_first way log cut bound tears ds first first.part.entry refl inside none admissible there,
  λ entry here none_arrived. before_first way log cut bound tears ds first entry first.part.entry refl bounds inside none admissible there here none_arrived,
)
