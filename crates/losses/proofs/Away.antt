-- What a flush in the window of an image takes away, and what one elsewhere leaves.
use Rattle.std.proofs.Common.{ℕ, zero, suc, ◌≡◌, ◌≢◌, ◌==◌, ◌||◌, ◌+◌, ◌<◌, ◌≤◌, nat_le, Bool, true, false, not, if◌then◌else◌, List, [], ◌∷◌, length, filter, slice_get, Some, None, refl, sym, ◌∙◌, ap, arith, inl, inr}
use Rattle.std.specs.Option.{option_map_or}
use Rattle.std.proofs.lemmas.Bool.Decides.{eqb_tells, nat_tests}
use Rattle.std.proofs.lemmas.List.Filters.{length-filter_both}
use Rattle.std.proofs.lemmas.Option.{slice_get_cases}
use Rattle.logfmt.specs.declared.entry.Entry.{Entry}
use Rattle.logfmt.specs.Flushed.{with_flush, flushed_at, is_place}
use Rattle.logfmt.proofs.Flushed.{entry-flushed, entry-before, own-count}
use Rattle.epochs.specs.declared.part.By.{By}
use Rattle.epochs.specs.declared.part.Part.{Part}
use Rattle.epochs.specs.declared.part.By.TheVariants as by
use Rattle.epochs.specs.Parts.{part_size}
use Rattle.epochs.specs.Laws.{IsVolatile}
use Rattle.choices.specs.declared.choice.Departure.{Departure}
use Rattle.choices.specs.CrashModel.{IsAdmissible}
use Rattle.losses.specs.declared.flushes.window.Window.{Window}
use Rattle.losses.specs.Windows.{IsWindow, entry_arrives}
use Rattle.losses.specs.Places.{HoldsNone}
use Rattle.losses.specs.WindowLaws.{up_to, FlushTakesAway}

-- with a flush between its entry and the cut a part isn't volatile
flushed_part : (way : By) (es : List Entry) (cut : ℕ) (chosen : ℕ → Bool) (part : Part) (p : ℕ) (e : Entry) → slice_get es p ≡ Some e → chosen p ≡ true
    → part.entry < p → p < cut → ¬ (IsVolatile way (flushed_at chosen es) cut part)
flushed_part way es cut chosen part p e there is beyond before volatile =
    let now : slice_get (flushed_at chosen es) p ≡ Some (with_flush e) = entry-flushed chosen es p e there ∙ ap (λ b. Some (if b then with_flush e else e)) is in
    let calm : true ≡ false = volatile.flushed p (with_flush e) beyond before now in
    cc

-- the entries up to the end of a window stand in the log
inside : (way : By) (es : List Entry) (cut : ℕ) (ds : List Departure) (w : Window) (p : ℕ) → IsWindow way es cut ds w → p ≤ w.end → (e : Entry) × (slice_get es p ≡ Some e)
inside way es cut ds w p is order =
    elim (slice_get_cases es p).1 [
      | inl a ↦ (a.0, a.2)
      | inr past ↦
          elim (slice_get_cases es w.end).1 [
            | inl b ↦ let within = b.1 in let end = past.0 in absurd (omega (arith, within, end, order))
            | inr none ↦ let no : false ≡ true = ap (λ o. option_map_or (λ (entry : Entry). entry.flags.mark || entry_arrives way ds w.end entry) o false) (sym none.1) ∙ is.end in cc
          ]
    ]

-- the first of the departures is the first of those up to the end of the window
first_stays : (e : ℕ) (ds : List Departure) (d : Departure) → slice_get ds 0 ≡ Some d → d.part.entry ≤ e → slice_get (up_to e ds) 0 ≡ Some d
first_stays e [] d there low = absurd (let bad : None ≡ Some d = there in cc)
first_stays e (x ∷ ds) d there low =
    let same : x ≡ d = cc in
    let test : nat_le x.part.entry e ≡ true = let own = ap (λ (y : Departure). y.part.entry) same in grind (arith, nat_tests, own, low) in
    rw test there

pub flush_takes_away : FlushTakesAway
flush_takes_away way es cut bound tears ds w places p is holds chosen =
    let entry = inside way es cut ds w p is holds.to in
    let start = is.start in
    let from = holds.from in
    let to = holds.to in
    let before = is.before in
    let order = is.order in
    let beyond : is.first.part.entry < p = omega (arith, start, from) in
    let early : p < cut = omega (arith, to, before) in
    let right : p < w.end + 1 = omega (arith, to) in
    let low : is.first.part.entry ≤ w.end = omega (arith, start, order) in (
      λ admissible. flushed_part way es cut (is_place places) is.first.part p entry.0 entry.1 chosen beyond early (admissible.volatile 0 is.first is.departs),
      λ admissible. flushed_part way es (w.end + 1) (is_place places) is.first.part p entry.0 entry.1 chosen beyond right (admissible.volatile 0 is.first (first_stays w.end ds is.first is.departs low)),
    )

-- a part that is volatile at a cut stays so up to there, where no flush is added after it
own_size : (way : By) (b : Bool) (e : Entry) → part_size way (if b then with_flush e else e) ≡ part_size way e
own_size way b e =
    elim way as (λ v. part_size v (if b then with_flush e else e) ≡ part_size v e) [
      | by.Sector ↦ refl
      | by.Write ↦ own-count b e
    ]

own_sector : (b : Bool) (e : Entry) → (if b then with_flush e else e).sector ≡ e.sector
own_sector true e = refl
own_sector false e = refl

own_fua : (b : Bool) (e : Entry) → (if b then with_flush e else e).flags.fua ≡ e.flags.fua
own_fua true e = refl
own_fua false e = refl

stays_volatile : (way : By) (es : List Entry) (cut right : ℕ) (chosen : ℕ → Bool) (part : Part) → IsVolatile way es cut part → part.entry < right → right ≤ cut
    → ((f : ℕ) → part.entry < f → f < right → chosen f ≡ false) → IsVolatile way (flushed_at chosen es) right part
stays_volatile way es cut right chosen part is before order calm =
    let b : Bool = chosen part.entry in
    let count = own-count b is.entry in
    let within = is.inside in
    record {
      entry = if b then with_flush is.entry else is.entry;
      there = entry-flushed chosen es part.entry is.entry is.there;
      count = is.count ∙ sym (own_size way b is.entry);
      some = is.some;
      inside = omega (arith, count, within);
      sector = is.sector ∙ sym (ap (λ (n : ℕ). n + part.place) (own_sector b is.entry));
      before = before;
      forced = own_fua b is.entry ∙ is.forced;
      flushed = λ f flush beyond early at.
          let was = entry-before chosen es f flush at in
          let same : flush ≡ was.0 = was.2 ∙ ap (λ v. if v then with_flush was.0 else was.0) (calm f beyond early) in
          ap (λ (x : Entry). x.flags.flush) same ∙ is.flushed f was.0 beyond (omega (arith, early, order)) was.1;
    }

-- elements that a test lets through
pub kept_from : (p : Departure → Bool) (xs : List Departure) (i : ℕ) (d : Departure) → slice_get (filter p xs) i ≡ Some d
    → (k : ℕ) × (slice_get xs k ≡ Some d) × (p d ≡ true)
kept_from p [] i d there = absurd (let bad : None ≡ Some d = there in cc)
kept_from p (x ∷ xs) i d there = by_test (λ j here. kept_from p xs j d here) (p x) refl there
  where
    at_head : ((j : ℕ) → slice_get (filter p xs) j ≡ Some d → (k : ℕ) × (slice_get xs k ≡ Some d) × (p d ≡ true)) → (j : ℕ) → p x ≡ true
        → slice_get (x ∷ filter p xs) j ≡ Some d → (k : ℕ) × (slice_get (x ∷ xs) k ≡ Some d) × (p d ≡ true)
    at_head more zero passes here = let same : x ≡ d = cc in (0, here, ap p (sym same) ∙ passes)
    at_head more (suc j) passes here = let rest = more j here in (suc rest.0, rest.1, rest.2)

    by_test : ((j : ℕ) → slice_get (filter p xs) j ≡ Some d → (k : ℕ) × (slice_get xs k ≡ Some d) × (p d ≡ true)) → (b : Bool) → p x ≡ b
        → slice_get (if b then x ∷ filter p xs else filter p xs) i ≡ Some d → (k : ℕ) × (slice_get (x ∷ xs) k ≡ Some d) × (p d ≡ true)
    by_test more true passes here = at_head more i passes here
    by_test more false fails here = let rest = more i here in (suc rest.0, rest.1, rest.2)

-- two elements, one before the other
abbrev pub Apart : List Departure → Departure → Departure → Type 0
Apart xs c d = (k : ℕ) × (l : ℕ) × (k < l) × (slice_get xs k ≡ Some c) × (slice_get xs l ≡ Some d)

pub kept_two : (p : Departure → Bool) (xs : List Departure) (i j : ℕ) (c d : Departure) → i < j → slice_get (filter p xs) i ≡ Some c → slice_get (filter p xs) j ≡ Some d
    → Apart xs c d
kept_two p [] i j c d less here there = absurd (let bad : None ≡ Some c = here in cc)
kept_two p (x ∷ xs) i j c d less here there =
    by_test (λ k at. kept_from p xs k d at) (λ k l before at beyond. kept_two p xs k l c d before at beyond) (p x) refl here there
  where
    at_head : ((k : ℕ) → slice_get (filter p xs) k ≡ Some d → (l : ℕ) × (slice_get xs l ≡ Some d) × (p d ≡ true))
        → ((k l : ℕ) → k < l → slice_get (filter p xs) k ≡ Some c → slice_get (filter p xs) l ≡ Some d → Apart xs c d)
        → (i j : ℕ) → i < j → slice_get (x ∷ filter p xs) i ≡ Some c → slice_get (x ∷ filter p xs) j ≡ Some d → Apart (x ∷ xs) c d
    at_head one two i zero less here there = absurd (omega (arith, less))
    at_head one two zero (suc j) less here there = let rest = one j there in (0, suc rest.0, omega arith, here, rest.1)
    at_head one two (suc i) (suc j) less here there =
        let rest = two i j (omega (arith, less)) here there in
        let order = rest.2 in
        (suc rest.0, suc rest.1, omega (arith, order), rest.3, rest.4)

    by_test : ((k : ℕ) → slice_get (filter p xs) k ≡ Some d → (l : ℕ) × (slice_get xs l ≡ Some d) × (p d ≡ true))
        → ((k l : ℕ) → k < l → slice_get (filter p xs) k ≡ Some c → slice_get (filter p xs) l ≡ Some d → Apart xs c d)
        → (b : Bool) → p x ≡ b → slice_get (if b then x ∷ filter p xs else filter p xs) i ≡ Some c
        → slice_get (if b then x ∷ filter p xs else filter p xs) j ≡ Some d → Apart (x ∷ xs) c d
    by_test one two true passes here there = at_head one two i j less here there
    by_test one two false fails here there =
        let rest = two i j less here there in
        let order = rest.2 in
        (suc rest.0, suc rest.1, omega (arith, order), rest.3, rest.4)

shorter : (p : Departure → Bool) (xs : List Departure) → length (filter p xs) ≤ length xs
shorter p xs = let both = length-filter_both p (λ x. not (p x)) (λ x. refl) xs in omega (arith, both)

-- the first departure has the first entry
pub first_entry : (way : By) (es : List Entry) (cut bound : ℕ) (tears : Bool) (ds : List Departure) (first d : Departure) (k : ℕ)
    → IsAdmissible way es cut bound tears ds → slice_get ds 0 ≡ Some first → slice_get ds k ≡ Some d → first.part.entry ≤ d.part.entry
first_entry way es cut bound tears ds first d zero is here there =
    let same : first ≡ d = cc in
    let own = ap (λ (x : Departure). x.part.entry) same in
    omega (arith, own)
first_entry way es cut bound tears ds first d (suc k) is here there =
    elim (is.rising 0 (suc k) first d (omega arith) here there) [
      | inl before ↦ omega (arith, before)
      | inr same ↦ let own = same.0 in omega (arith, own)
    ]

-- some of what departs, at a cut after it, where no flush is added between
pub leaves : (way : By) (es : List Entry) (cut bound right : ℕ) (tears : Bool) (ds : List Departure) (p : Departure → Bool) (chosen : ℕ → Bool)
    → IsAdmissible way es cut bound tears ds → right ≤ cut
    → ((d : Departure) (k : ℕ) → slice_get ds k ≡ Some d → p d ≡ true → d.part.entry < right)
    → ((d : Departure) (k f : ℕ) → slice_get ds k ≡ Some d → p d ≡ true → d.part.entry < f → f < right → chosen f ≡ false)
    → IsAdmissible way (flushed_at chosen es) right bound tears (filter p ds)
leaves way es cut bound right tears ds p chosen is order before calm = record {
  few = let most = is.few in let less = shorter p ds in omega (arith, most, less);
  volatile = λ i d there.
      let was = kept_from p ds i d there in
      stays_volatile way es cut right chosen d.part (is.volatile was.0 d was.1) (before d was.0 was.1 was.2) order (λ f beyond early. calm d was.0 f was.1 was.2 beyond early);
  fates = λ i d there. let was = kept_from p ds i d there in is.fates was.0 d was.1;
  rising = λ i j c d less here there. let was = kept_two p ds i j c d less here there in is.rising was.0 was.1 c d was.2 was.3 was.4;
}

-- what a test of two numbers says
pub same_number : (a b : ℕ) → (a == b) ≡ true → a ≡ b
same_number a b test =
    elim (eqb_tells a b) [
      | inl same ↦ same.1
      | inr other ↦ absurd (let bad : false ≡ true = sym other.0 ∙ test in cc)
    ]

pub other_number : (a b : ℕ) → (a == b) ≡ false → a ≢ b
other_number a b test =
    elim (eqb_tells a b) [
      | inl same ↦ absurd (let bad : true ≡ false = sym same.0 ∙ test in cc)
      | inr other ↦ other.1
    ]

-- a number that is none of some places
pub not_place : (places : List ℕ) (n : ℕ) → ((i p : ℕ) → slice_get places i ≡ Some p → p ≡ n → ⊥) → is_place places n ≡ false
not_place [] n none = refl
not_place (x ∷ places) n none =
    let rest = not_place places n (λ i p there. none (suc i) p there) in
    elim (eqb_tells x n) [
      | inl same ↦ absurd (none 0 x refl same.1)
      | inr other ↦ rw other.0 rest
    ]

-- flushes outside of a window, at the cut after it
pub elsewhere : (way : By) (es : List Entry) (cut bound : ℕ) (tears : Bool) (ds : List Departure) (w : Window) (places : List ℕ)
    → IsWindow way es cut ds w → IsAdmissible way es cut bound tears ds → HoldsNone w places
    → IsAdmissible way (flushed_at (is_place places) es) (w.end + 1) bound tears (up_to w.end ds)
elsewhere way es cut bound tears ds w places is admissible none =
    let start = is.start in
    let before = is.before in
    leaves way es cut bound (w.end + 1) tears ds (λ (d : Departure). nat_le d.part.entry w.end) (is_place places) admissible (omega (arith, before))
    (λ d k there passes.
    let test : nat_le d.part.entry w.end ≡ true = passes in
    let low : d.part.entry ≤ w.end = grind (arith, nat_tests, test) in
    omega (arith, low))
    (λ d k f there passes beyond early.
    not_place places f (λ i p at same.
    let first = first_entry way es cut bound tears ds is.first d k admissible is.departs there in
    none i p at (record { from = omega (arith, start, first, beyond, same); to = omega (arith, early, same) })))

-- flushes before a window, at the cut itself
pub before_all : (way : By) (es : List Entry) (cut bound : ℕ) (tears : Bool) (ds : List Departure) (w : Window) (places : List ℕ)
    → IsWindow way es cut ds w → IsAdmissible way es cut bound tears ds → ((i p : ℕ) → slice_get places i ≡ Some p → p < w.start)
    → IsAdmissible way (flushed_at (is_place places) es) cut bound tears ds
before_all way es cut bound tears ds w places is admissible low = record {
  few = admissible.few;
  volatile = λ k d there.
      let whole = admissible.volatile k d there in
      stays_volatile way es cut cut (is_place places) d.part whole whole.before (omega arith) (λ f beyond early.
      not_place places f (λ i p at same.
      let start = is.start in
      let first = first_entry way es cut bound tears ds is.first d k admissible is.departs there in
      let less = low i p at in
      omega (arith, start, first, beyond, same, less)));
  fates = admissible.fates;
  rising = admissible.rising;
}
