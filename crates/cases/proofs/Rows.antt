-- On the image of each choice of a leaf the program ends as on that of its representative.
use Rattle.std.proofs.Common.{ℕ, zero, suc, ◌≡◌, ◌+◌, ◌-◌, ◌*◌, ◌/◌, ◌<◌, ◌≤◌, ◌⊎◌, ◌==◌, nat_le, nat_lt, Bool, true, false, not, ◌&&◌, ◌||◌, if◌then◌else◌, List, [], ◌∷◌, ◌++◌, length, map, filter, reverse, drop, get_or, slice_get, slice_index, slice_index_or, bytes_eq, Option, None, Some, refl, sym, subst, ◌∙◌, ap, arith, inl, inr}
use Rattle.std.specs.List.{list_all, list_any, range_with_len}
use Rattle.std.specs.Option.{option_map_or}
use Rattle.std.specs.Cmp.{first_so, second_so}
use Rattle.std.proofs.lemmas.Bool.{cases_lt}
use Rattle.std.proofs.lemmas.Bool.Decides.{eqb_tells, nat_tests}
use Rattle.std.proofs.lemmas.List.{reverse-reverse, get_or-take, get_or-drop}
use Rattle.std.proofs.lemmas.List.Folds.{list_all-append}
use Rattle.std.proofs.lemmas.List.FromFn.{length-map-range_with_len, get_or-map-range_with_len}
use Rattle.std.proofs.lemmas.Grind.{reverse_onto, same_number_lists}
use Rattle.std.proofs.lemmas.Option.{slice_get_cases, slice_get_past, same_Some}
use Rattle.std.proofs.lemmas.Slice.Eq.{bytes_eq-Decides}
use Rattle.logfmt.specs.declared.entry.Entry.{Entry}
use Rattle.logfmt.specs.Bounds.{LogValue}
use Rattle.logfmt.specs.Initial.{initial_byte, initial_sector}
use Rattle.epochs.specs.declared.part.Part.{Part}
use Rattle.epochs.specs.declared.part.By.{By}
use Rattle.epochs.specs.declared.part.By.TheVariants as by
use Rattle.epochs.specs.declared.unit.Unit.{Unit as LogUnit}
use Rattle.epochs.specs.Parts.{part_size, part_count, part_of, parts_of_entry, parts_before}
use Rattle.epochs.specs.Units.{unit_of, units_of_entry, units_before, unit_content}
use Rattle.epochs.proofs.Growth.{parts_before-next, units_before-next}
use Rattle.choices.specs.declared.fate.Fate.{Fate}
use Rattle.choices.specs.declared.fate.Fate.TheVariants as fate
use Rattle.choices.specs.declared.choice.Departure.{Departure}
use Rattle.images.specs.Images.{keeps, is_in, byte_in, survives, writes, byte_after, sector_after, device_after}
use Rattle.images.specs.Table.{covering}
use Rattle.images.proofs.Shares.{lies_in, lt_alike, le_alike}
use Rattle.images.proofs.Writers.{byte_after_written, byte_after_lost, last_writer_shows}
use Rattle.images.proofs.Sectors.{device_there}
use Rattle.machine.specs.Footprint.{HaveSame}
use Rattle.cases.specs.Risk.{is_at_risk, parts_at_risk}
use Rattle.cases.specs.Choices.{Choice, departs, departures, image_at}
use Rattle.cases.specs.Rows.{row, part_with, piece, shows, candidates}
use Rattle.cases.specs.Cases.{Case, representative, whole_case, with_part, show_alike, firsts, kinds, matters, Split, split_or, split_in_row, or_else, first_split}
use Rattle.cases.specs.Trees.{Subject, split_of, AreLeaves, no_case, is_beyond, is_leaf, is_split}
use Rattle.cases.specs.Laws.{IsAmong, Includes, OfOne, LeavesEndAlike, LeavesLookAlike}
use Rattle.cases.proofs.Cases.{AreKinds, one_first, kept_among, among_kept, shown_kinds}

-- which bytes of a unit a part with a fate shows
abbrev pub kept_at : Option Fate → Part → LogUnit → ℕ → Bool
kept_at None p u i = true
kept_at (Some f) p u i = keeps f p.count (byte_in p u i)

-- the departures of a choice leave what it shows
among_departures : (choice : Choice) (ps : List Part) (u : LogUnit) (i : ℕ)
    → survives (departures choice ps) i u ≡ list_all (λ (p : Part). not (is_in p u) || kept_at (choice p) p u i) ps
unfolding survives
among_departures choice [] u i = refl
among_departures choice (p ∷ ps) u i =
    let test : Departure → Bool = λ d. not (is_in d.part u) || keeps d.fate d.part.count (byte_in d.part u i) in
    list_all-append test (departs p (choice p)) (departures choice ps) ∙ by_fate (choice p) ∙ ap (λ b. (not (is_in p u) || kept_at (choice p) p u i) && b) (among_departures choice ps u i)
  where
    or_true : (b : Bool) → (not b || true) ≡ true
    or_true true = refl
    or_true false = refl

    and_one : (a b : Bool) → ((a && true) && b) ≡ (a && b)
    and_one true b = refl
    and_one false b = refl

    by_fate : (o : Option Fate) → (list_all (λ (d : Departure). not (is_in d.part u) || keeps d.fate d.part.count (byte_in d.part u i)) (departs p o)
        && list_all (λ (d : Departure). not (is_in d.part u) || keeps d.fate d.part.count (byte_in d.part u i)) (departures choice ps))
        ≡ ((not (is_in p u) || kept_at o p u i) && list_all (λ (d : Departure). not (is_in d.part u) || keeps d.fate d.part.count (byte_in d.part u i)) (departures choice ps))
    by_fate None = ap (λ b. b && list_all (λ (d : Departure). not (is_in d.part u) || keeps d.fate d.part.count (byte_in d.part u i)) (departures choice ps)) (sym (or_true (is_in p u)))
    by_fate (Some f) = and_one (not (is_in p u) || keeps f p.count (byte_in p u i)) (list_all (λ (d : Departure). not (is_in d.part u) || keeps d.fate d.part.count (byte_in d.part u i)) (departures choice ps))

-- a test of all that one element decides
all_by_one : {A : Type 0} (F : A → Bool) (xs : List A) (x : A) → IsAmong xs x → ((y : A) → IsAmong xs y → (F y ≡ true) ⊎ (y ≡ x)) → list_all F xs ≡ F x
all_by_one F xs x among each = by_test (F x) refl
  where
    holds : (ys : List _) → F x ≡ true → ((y : _) → IsAmong ys y → (F y ≡ true) ⊎ (y ≡ x)) → list_all F ys ≡ true
    holds [] own all = refl
    holds (y ∷ ys) own all = rw (here (all y (inl refl)), holds ys own (λ z is. all z (inr is))) refl
      where
        here : (F y ≡ true) ⊎ (y ≡ x) → F y ≡ true
        here (inl is) = is
        here (inr same) = ap F same ∙ own

    fails : (ys : List _) → F x ≡ false → IsAmong ys x → list_all F ys ≡ false
    fails [] own is = absurd is
    fails (y ∷ ys) own (inl same) = let no : F y ≡ false = ap F same ∙ own in rw no refl
    fails (y ∷ ys) own (inr is) = and_no (F y) (list_all F ys) (fails ys own is)
      where
        and_no : (a b : Bool) → b ≡ false → (a && b) ≡ false
        and_no true b is = is
        and_no false b is = refl

    by_test : (b : Bool) → F x ≡ b → list_all F xs ≡ F x
    by_test true own = holds xs own each ∙ sym own
    by_test false own = fails xs own among ∙ sym own

all_pass : {A : Type 0} (F : A → Bool) (xs : List A) → ((y : A) → IsAmong xs y → F y ≡ true) → list_all F xs ≡ true
all_pass F [] each = refl
all_pass F (y ∷ ys) each = rw (each y (inl refl), all_pass F ys (λ z is. each z (inr is))) refl

-- of parts before a cut

pub among_append_left : {A : Type 0} (xs ys : List A) (x : A) → IsAmong xs x → IsAmong (xs ++ ys) x
among_append_left [] ys x is = absurd is
among_append_left (y ∷ xs) ys x (inl same) = inl same
among_append_left (y ∷ xs) ys x (inr rest) = inr (among_append_left xs ys x rest)

pub among_append_right : {A : Type 0} (xs ys : List A) (x : A) → IsAmong ys x → IsAmong (xs ++ ys) x
among_append_right [] ys x is = is
among_append_right (y ∷ xs) ys x is = inr (among_append_right xs ys x is)

among_append : {A : Type 0} (xs ys : List A) (x : A) → IsAmong (xs ++ ys) x → IsAmong xs x ⊎ IsAmong ys x
among_append [] ys x is = inr is
among_append (y ∷ xs) ys x (inl same) = inl (inl same)
among_append (y ∷ xs) ys x (inr rest) = by_rest (among_append xs ys x rest)
  where
    by_rest : IsAmong xs x ⊎ IsAmong ys x → IsAmong (y ∷ xs) x ⊎ IsAmong ys x
    by_rest (inl is) = inl (inr is)
    by_rest (inr is) = inr is

pub among_range : {A : Type 0} (f : ℕ → A) (a n : ℕ) (x : A) → IsAmong (map f (range_with_len a n)) x → (j : ℕ) × (a ≤ j) × (j < a + n) × (f j ≡ x)
among_range f a zero x is = absurd is
among_range f a (suc n) x (inl same) = (a, omega arith, omega arith, same)
among_range f a (suc n) x (inr rest) = let was = among_range f (a + 1) n x rest in let low = was.1 in let high = was.2 in (was.0, omega (arith, low), omega (arith, high), was.3)

range_among : {A : Type 0} (f : ℕ → A) (a n j : ℕ) → a ≤ j → j < a + n → IsAmong (map f (range_with_len a n)) (f j)
range_among f a zero j low high = absurd (omega (arith, low, high))
range_among f a (suc n) j low high = elim (eqb_tells a j) [
  | inl same ↦ inl (ap f same.1)
  | inr other ↦ let apart = other.1 in inr (range_among f (a + 1) n j (omega (arith, low, apart)) (omega (arith, high)))
]

-- a part before a cut is one of an entry
pub record IsBefore (way : By) (es : List Entry) (k : ℕ) (p : Part) : Type 0 where
  pub entry : ℕ
  pub before : entry < k
  pub own : Entry
  pub there : slice_get es entry ≡ Some own
  pub place : ℕ
  pub within : place < part_count way own
  pub is : part_of way entry own place ≡ p

pub part_before : (way : By) (es : List Entry) (k : ℕ) (p : Part) → k ≤ length es → IsAmong (parts_before way es k) p → IsBefore way es k p
part_before way es zero p le is = absurd is
part_before way es (suc k) p le is = elim (slice_get_cases es k).1 [
  | inr past ↦ let end = past.0 in absurd (omega (arith, end, le))
  | inl a ↦
      let P : List Part → Type 0 = λ ps. IsAmong ps p in
      elim (among_append (parts_before way es k) (parts_of_entry way k a.0) p (subst P (parts_before-next way es k a.0 a.2) is)) [
        | inl early ↦
            let was = part_before way es k p (omega (arith, le)) early in
            let less = was.before in
            record { entry = was.entry; before = omega (arith, less); own = was.own; there = was.there; place = was.place; within = was.within; is = was.is }
        | inr late ↦
            let was = among_range (part_of way k a.0) 0 (part_count way a.0) p late in
            let high = was.2 in
            record { entry = k; before = omega arith; own = a.0; there = a.2; place = was.0; within = omega (arith, high); is = was.3 }
      ]
]

pub before_part : (way : By) (es : List Entry) (k e : ℕ) (x : Entry) (j : ℕ) → k ≤ length es → e < k → slice_get es e ≡ Some x → j < part_count way x
    → IsAmong (parts_before way es k) (part_of way e x j)
before_part way es zero e x j le lt there within = absurd (omega (arith, lt))
before_part way es (suc k) e x j le lt there within = elim (slice_get_cases es k).1 [
  | inr past ↦ let end = past.0 in absurd (omega (arith, end, le))
  | inl a ↦
      let P : List Part → Type 0 = λ ps. IsAmong ps (part_of way e x j) in
      subst P (sym (parts_before-next way es k a.0 a.2)) (elim (cases_lt e k) [
        | inl less ↦ among_append_left (parts_before way es k) (parts_of_entry way k a.0) (part_of way e x j) (before_part way es k e x j (omega (arith, le)) less there within)
        | inr more ↦
            let same : e ≡ k = omega (arith, lt, more) in
            let one : x ≡ a.0 = same_Some x a.0 (sym there ∙ ap (slice_get es) same ∙ a.2) in
            let count : part_count way x ≡ part_count way a.0 = ap (part_count way) one in
            let own : part_of way k a.0 j ≡ part_of way e x j = λ i. part_of way (sym same i) (sym one i) j in
            let Q : Part → Type 0 = λ q. IsAmong (parts_before way es k ++ parts_of_entry way k a.0) q in
            subst Q own
            (among_append_right (parts_before way es k) (parts_of_entry way k a.0) (part_of way k a.0 j)
            (range_among (part_of way k a.0) 0 (part_count way a.0) j (omega arith) (omega (arith, within, count))))
      ])
]

-- a unit before a cut
pub record IsUnitBefore (es : List Entry) (k : ℕ) (u : LogUnit) : Type 0 where
  pub entry : ℕ
  pub before : entry < k
  pub own : Entry
  pub there : slice_get es entry ≡ Some own
  pub place : ℕ
  pub within : place < own.count
  pub is : unit_of entry own place ≡ u

pub unit_before : (es : List Entry) (k : ℕ) (u : LogUnit) → k ≤ length es → IsAmong (units_before es k) u → IsUnitBefore es k u
unit_before es zero u le is = absurd is
unit_before es (suc k) u le is = elim (slice_get_cases es k).1 [
  | inr past ↦ let end = past.0 in absurd (omega (arith, end, le))
  | inl a ↦
      let P : List LogUnit → Type 0 = λ us. IsAmong us u in
      elim (among_append (units_before es k) (units_of_entry k a.0) u (subst P (units_before-next es k a.0 a.2) is)) [
        | inl early ↦
            let was = unit_before es k u (omega (arith, le)) early in
            let less = was.before in
            record { entry = was.entry; before = omega (arith, less); own = was.own; there = was.there; place = was.place; within = was.within; is = was.is }
        | inr late ↦
            let was = among_range (unit_of k a.0) 0 a.0.count u late in
            let high = was.2 in
            record { entry = k; before = omega arith; own = a.0; there = a.2; place = was.0; within = omega (arith, high); is = was.3 }
      ]
]

-- the part that a unit is of is one of its entry, and no other part before the cut has the unit

abbrev pub own_place : By → ℕ → ℕ
own_place by.Sector j = j
own_place by.Write j = 0

pub own_within : (way : By) (x : Entry) (j : ℕ) → j < x.count → own_place way j < part_count way x
own_within by.Sector x j lt = lt
own_within by.Write x j lt =
    let some : (x.count == 0) ≡ false = grind (arith, nat_tests, lt) in
    let one : part_count by.Write x ≡ 1 = rw some refl in
    omega (arith, one)

pub own_is : (way : By) (es : List Entry) (e : ℕ) (x : Entry) (j : ℕ) → slice_get es e ≡ Some x → part_of way e x (own_place way j) ≡ part_with way es (unit_of e x j)
own_is by.Sector es e x j there =
    let place : j * 1 ≡ j = omega arith in
    let sector : x.sector + j * 1 ≡ x.sector + j = omega arith in
    λ i. record { entry = e; place = place i; count = 1; sector = sector i }
own_is by.Write es e x j there =
    let place : 0 * x.count ≡ 0 = omega arith in
    let count : x.count ≡ option_map_or (λ (entry : Entry). entry.count) (slice_get es e) 0 = sym (ap (λ o. option_map_or (λ (entry : Entry). entry.count) o 0) there) in
    let sector : x.sector + 0 * x.count ≡ option_map_or (λ (entry : Entry). entry.sector) (slice_get es e) 0 =
    (let none : x.sector + 0 * x.count ≡ x.sector = omega arith in none ∙ sym (ap (λ o. option_map_or (λ (entry : Entry). entry.sector) o 0) there)) in
    λ i. record { entry = e; place = place i; count = count i; sector = sector i }

one_place : (way : By) (x : Entry) (a j : ℕ) → a < part_count way x → a * part_size way x ≤ j → j < a * part_size way x + part_size way x → a ≡ own_place way j
one_place by.Sector x a j within low high = omega (arith, low, high)
one_place by.Write x a j within low high =
    elim (eqb_tells x.count 0) [
      | inl none ↦
          let gone : part_count by.Write x ≡ 0 = ap (λ b. if b then 0 else 1) none.0 in
          absurd (omega (arith, gone, within))
      | inr some ↦
          let one : part_count by.Write x ≡ 1 = ap (λ b. if b then 0 else 1) some.0 in
          omega (arith, one, within)
    ]

no_other : (way : By) (es : List Entry) (k e : ℕ) (x : Entry) (j : ℕ) (p : Part) → slice_get es e ≡ Some x → IsBefore way es k p → is_in p (unit_of e x j) ≡ true
    → p ≡ part_with way es (unit_of e x j)
no_other way es k e x j p there was own =
    let lies = lies_in p (unit_of e x j) own in
    let p_is = was.is in
    let entry : was.entry ≡ e = ap (λ (q : Part). q.entry) p_is ∙ lies.entry in
    let same : was.own ≡ x = same_Some was.own x (sym was.there ∙ ap (slice_get es) entry ∙ there) in
    let place : was.place * part_size way was.own ≡ p.place = ap (λ (q : Part). q.place) p_is in
    let count : part_size way was.own ≡ p.count = ap (λ (q : Part). q.count) p_is in
    let low = lies.low in
    let high = lies.high in
    let at : was.place ≡ own_place way j = one_place way was.own was.place j was.within (omega (arith, low, place)) (omega (arith, high, place, count)) in
    sym p_is ∙ (λ i. part_of way (entry i) (same i) (at i)) ∙ own_is way es e x j there

-- what of a unit reaches the device with a choice, by the fate of its part
pub survives_by : (log : LogValue) (way : By) (k : ℕ) (choice : Choice) (u : LogUnit) (i : ℕ) → k ≤ length log.entries → IsAmong (units_before log.entries k) u
    → survives (departures choice (parts_at_risk way log.entries k)) i u
    ≡ (if is_at_risk log.entries k u.entry then kept_at (choice (part_with way log.entries u)) (part_with way log.entries u) u i else true)
unfolding parts_at_risk
survives_by log way k choice u i le among =
    let es = log.entries in
    let was = unit_before es k u le among in
    let risk : Part → Bool = λ p. is_at_risk es k p.entry in
    let P : LogUnit → Type 0 = λ v. survives (departures choice (filter risk (parts_before way es k))) i v
    ≡ (if is_at_risk es k v.entry then kept_at (choice (part_with way es v)) (part_with way es v) v i else true) in
    subst P was.is (of_unit was.entry was.before was.own was.there was.place was.within)
  where
    es : List Entry
    es = log.entries

    risk : Part → Bool
    risk p = is_at_risk log.entries k p.entry

    of_unit : (e : ℕ) → e < k → (x : Entry) → slice_get log.entries e ≡ Some x → (j : ℕ) → j < x.count
        → survives (departures choice (filter (λ (p : Part). is_at_risk log.entries k p.entry) (parts_before way log.entries k))) i (unit_of e x j)
        ≡ (if is_at_risk log.entries k e then kept_at (choice (part_with way log.entries (unit_of e x j))) (part_with way log.entries (unit_of e x j)) (unit_of e x j) i else true)
    of_unit e lt x there j within =
        among_departures choice (filter (λ (p : Part). is_at_risk log.entries k p.entry) (parts_before way log.entries k)) (unit_of e x j) i ∙ by_risk (is_at_risk log.entries k e) refl
      where
        v : LogUnit
        v = unit_of e x j

        own : Part
        own = part_with way log.entries (unit_of e x j)

        test : Part → Bool
        test p = not (is_in p (unit_of e x j)) || kept_at (choice p) p (unit_of e x j) i

        other : (p : Part) → IsAmong (parts_before way log.entries k) p → ((not (is_in p (unit_of e x j)) || kept_at (choice p) p (unit_of e x j) i) ≡ true) ⊎ (p ≡ part_with way log.entries (unit_of e x j))
        other p is = by_in (is_in p (unit_of e x j)) refl
          where
            by_in : (b : Bool) → is_in p (unit_of e x j) ≡ b → ((not (is_in p (unit_of e x j)) || kept_at (choice p) p (unit_of e x j) i) ≡ true) ⊎ (p ≡ part_with way log.entries (unit_of e x j))
            by_in true has = inr (no_other way log.entries k e x j p there (part_before way log.entries k p le is) has)
            by_in false has = inl (ap (λ b. not b || kept_at (choice p) p (unit_of e x j) i) has)

        entry_is : part_with way log.entries (unit_of e x j) ≡ part_of way e x (own_place way j)
        entry_is = sym (own_is way log.entries e x j there)

        own_entry : (part_with way log.entries (unit_of e x j)).entry ≡ e
        own_entry = ap (λ (q : Part). q.entry) entry_is

        has_own : is_in (part_with way log.entries (unit_of e x j)) (unit_of e x j) ≡ true
        has_own = in_own way
          where
            in_own : (w : By) → is_in (part_with w log.entries (unit_of e x j)) (unit_of e x j) ≡ true
            in_own by.Sector = grind (arith, nat_tests)
            in_own by.Write =
                let count : option_map_or (λ (entry : Entry). entry.count) (slice_get log.entries e) 0 ≡ x.count = ap (λ o. option_map_or (λ (entry : Entry). entry.count) o 0) there in
                let from : nat_le 0 j ≡ true = grind (arith, nat_tests) in
                let to : nat_lt j (0 + option_map_or (λ (entry : Entry). entry.count) (slice_get log.entries e) 0) ≡ true = grind (arith, nat_tests, count, within) in
                let here : (e == e) ≡ true = grind (arith, nat_tests) in
                rw (here, from, to) refl

        among_own : is_at_risk log.entries k e ≡ true → IsAmong (filter (λ (p : Part). is_at_risk log.entries k p.entry) (parts_before way log.entries k)) (part_with way log.entries (unit_of e x j))
        among_own risky =
            let Q : Part → Type 0 = λ q. IsAmong (parts_before way log.entries k) q in
            kept_among (λ (p : Part). is_at_risk log.entries k p.entry) (parts_before way log.entries k) (part_with way log.entries (unit_of e x j))
            (subst Q (own_is way log.entries e x j there) (before_part way log.entries k e x (own_place way j) le lt there (own_within way x j within)))
            (ap (is_at_risk log.entries k) own_entry ∙ risky)

        by_risk : (b : Bool) → is_at_risk log.entries k e ≡ b
            → list_all (λ (p : Part). not (is_in p (unit_of e x j)) || kept_at (choice p) p (unit_of e x j) i) (filter (λ (p : Part). is_at_risk log.entries k p.entry) (parts_before way log.entries k))
            ≡ (if is_at_risk log.entries k e then kept_at (choice (part_with way log.entries (unit_of e x j))) (part_with way log.entries (unit_of e x j)) (unit_of e x j) i else true)
        by_risk true risky =
            all_by_one (λ (p : Part). not (is_in p (unit_of e x j)) || kept_at (choice p) p (unit_of e x j) i)
            (filter (λ (p : Part). is_at_risk log.entries k p.entry) (parts_before way log.entries k)) (part_with way log.entries (unit_of e x j)) (among_own risky)
            (λ p is. other p (among_kept (λ (p : Part). is_at_risk log.entries k p.entry) (parts_before way log.entries k) p is).0)
            ∙ ap (λ b. not b || kept_at (choice (part_with way log.entries (unit_of e x j))) (part_with way log.entries (unit_of e x j)) (unit_of e x j) i) has_own
            ∙ sym (ap (λ b. if b then kept_at (choice (part_with way log.entries (unit_of e x j))) (part_with way log.entries (unit_of e x j)) (unit_of e x j) i else true) risky)
        by_risk false calm =
            all_pass (λ (p : Part). not (is_in p (unit_of e x j)) || kept_at (choice p) p (unit_of e x j) i)
            (filter (λ (p : Part). is_at_risk log.entries k p.entry) (parts_before way log.entries k))
            (λ p is.
            let was = among_kept (λ (p : Part). is_at_risk log.entries k p.entry) (parts_before way log.entries k) p is in
            elim (other p was.0) [
              | inl passes ↦ passes
              | inr same ↦
                  let bad : true ≡ false = sym was.1 ∙ ap (λ (q : Part). is_at_risk log.entries k q.entry) same ∙ ap (is_at_risk log.entries k) own_entry ∙ calm in
                  cc
            ])
            ∙ sym (ap (λ b. if b then kept_at (choice (part_with way log.entries (unit_of e x j))) (part_with way log.entries (unit_of e x j)) (unit_of e x j) i else true) calm)

-- a part shows a piece whole
pub whole_piece : (o : Option Fate) (p : Part) (u : LogUnit) (i j : ℕ) → i / 64 ≡ j → kept_at o p u i ≡ shows o p u j
whole_piece None p u i j at = refl
whole_piece (Some fate.Drop) p u i j at = refl
whole_piece (Some (fate.Head t)) p u i j at =
    let a : ℕ = u.place - p.place in
    let m : ℕ = t * p.count in
    lt_alike (512 * a + i) (64 * m) (512 * a + 64 * j) (64 * m) (λ lt. omega (arith, lt, at)) (λ lt. omega (arith, lt, at))
whole_piece (Some (fate.Tail t)) p u i j at =
    let a : ℕ = u.place - p.place in
    let m : ℕ = t * p.count in
    le_alike (512 * p.count - 64 * m) (512 * a + i) (512 * p.count - 64 * m) (512 * a + 64 * j) (λ le. omega (arith, le, at)) (λ le. omega (arith, le, at))

-- a byte of a sector, by its row: that of the last unit which reaches the device there
pub shown : LogValue → List Departure → ℕ → ℕ → List LogUnit → ℕ
shown log ds s i [] = initial_byte log.initial s i
shown log ds s i (u ∷ below) = if survives ds i u then slice_index (unit_content log.entries u) i else shown log ds s i below

pub shown_none : (log : LogValue) (ds : List Departure) (s i : ℕ) → shown log ds s i [] ≡ initial_byte log.initial s i
unfolding shown
shown_none log ds s i = refl

pub shown_next : (log : LogValue) (ds : List Departure) (s i : ℕ) (u : LogUnit) (below : List LogUnit)
    → shown log ds s i (u ∷ below) ≡ (if survives ds i u then slice_index (unit_content log.entries u) i else shown log ds s i below)
unfolding shown
shown_next log ds s i u below = refl

byte_of_row : (log : LogValue) (us : List LogUnit) (ds : List Departure) (s i : ℕ) → byte_after log (reverse us) ds s i ≡ shown log ds s i (covering s us)
unfolding covering writes shown
byte_of_row log [] ds s i = last_writer_shows.nothing log ds s i
byte_of_row log (u ∷ us) ds s i =
    ap (λ (xs : List LogUnit). byte_after log xs ds s i) (reverse_onto us u [])
    ∙ by_cover (byte_of_row log us ds s i) (u.sector == s) refl
  where
    by_reach : byte_after log (reverse us) ds s i ≡ shown log ds s i (covering s us) → (u.sector == s) ≡ true → (b : Bool) → survives ds i u ≡ b
        → byte_after log (reverse us ++ u ∷ []) ds s i ≡ (if b then slice_index (unit_content log.entries u) i else shown log ds s i (covering s us))
    by_reach rest covers true is = byte_after_written log (reverse us) u ds s i (rw (covers, is) refl)
    by_reach rest covers false is = byte_after_lost log (reverse us) u ds s i (rw (covers, is) refl) ∙ rest

    by_cover : byte_after log (reverse us) ds s i ≡ shown log ds s i (covering s us) → (b : Bool) → (u.sector == s) ≡ b
        → byte_after log (reverse us ++ u ∷ []) ds s i ≡ shown log ds s i (if b then u ∷ covering s us else covering s us)
    by_cover rest true covers = by_reach rest covers (survives ds i u) refl
    by_cover rest false other = byte_after_lost log (reverse us) u ds s i (rw other refl) ∙ rest

-- of pieces

byte_of_piece : (c : List ℕ) (i j : ℕ) → i / 64 ≡ j → slice_index c i ≡ get_or (piece j c) (i - 64 * j) 0
byte_of_piece c i j at =
    let size : 64 * j + 64 - 64 * j ≡ 64 = omega arith in
    let within : i - 64 * j < 64 * j + 64 - 64 * j = omega (arith, at) in
    let back : 64 * j + (i - 64 * j) ≡ i = omega (arith, at) in
    sym (get_or-take (64 * j + 64 - 64 * j) (drop (64 * j) c) (i - 64 * j) 0 within ∙ get_or-drop (64 * j) c (i - 64 * j) 0 ∙ ap (λ n. get_or c n 0) back)

piece_tells : (c d : List ℕ) (i j : ℕ) → i / 64 ≡ j → piece j c ≡ piece j d → slice_index c i ≡ slice_index d i
piece_tells c d i j at same = byte_of_piece c i j at ∙ ap (λ (xs : List ℕ). get_or xs (i - 64 * j) 0) same ∙ sym (byte_of_piece d i j at)

or_first : (a b : Bool) → (a || b) ≡ false → a ≡ false
or_first true b is = let bad : true ≡ false = is in cc
or_first false b is = refl

or_second : (a b : Bool) → (a || b) ≡ false → b ≡ false
or_second true b is = let bad : true ≡ false = is in cc
or_second false b is = is

not_true : (b : Bool) → not b ≡ false → b ≡ true
not_true true is = refl
not_true false is = let bad : true ≡ false = is in cc

same_piece : (c d : List ℕ) (j : ℕ) → not (bytes_eq (piece j c) (piece j d)) ≡ false → piece j c ≡ piece j d
same_piece c d j is = (bytes_eq-Decides (piece j c) (piece j d)).0 (not_true (bytes_eq (piece j c) (piece j d)) is)

-- where all that a sector may hold has the same in a piece, the sector has it
all_alike_shown : (log : LogValue) (way : By) (k s : ℕ) (choice : Choice) (us : List LogUnit) (content : List ℕ) (i j : ℕ) → k ≤ length log.entries → i < 512 → i / 64 ≡ j
    → ((u : LogUnit) → IsAmong us u → IsAmong (units_before log.entries k) u)
    → list_any (λ (c : List ℕ). not (bytes_eq (piece j c) (piece j content))) (candidates log k s us) ≡ false
    → shown log (departures choice (parts_at_risk way log.entries k)) s i us ≡ slice_index content i
unfolding shown initial_sector
all_alike_shown log way k s choice [] content i j le low at units none =
    let here : 0 + i ≡ i = omega arith in
    sym (get_or-map-range_with_len (initial_byte log.initial s) 0 512 i i 0 low here)
    ∙ piece_tells (map (initial_byte log.initial s) (range_with_len 0 512)) content i j at
    (same_piece (map (initial_byte log.initial s) (range_with_len 0 512)) content j (or_first (not (bytes_eq (piece j (map (initial_byte log.initial s) (range_with_len 0 512))) (piece j content))) false none))
all_alike_shown log way k s choice (u ∷ below) content i j le low at units none =
    let ds : List Departure = departures choice (parts_at_risk way log.entries k) in
    let test : List ℕ → Bool = λ c. not (bytes_eq (piece j c) (piece j content)) in
    let rest : List (List ℕ) = if is_at_risk log.entries k u.entry then candidates log k s below else [] in
    let own : slice_index (unit_content log.entries u) i ≡ slice_index content i =
    piece_tells (unit_content log.entries u) content i j at (same_piece (unit_content log.entries u) content j (or_first (test (unit_content log.entries u)) (list_any test rest) none)) in
    by_reach own (or_second (test (unit_content log.entries u)) (list_any test rest) none)
    (λ more. all_alike_shown log way k s choice below content i j le low at (λ v is. units v (inr is)) more)
    (survives_by log way k choice u i le (units u (inl refl)))
    (is_at_risk log.entries k u.entry) refl (survives ds i u) refl
  where
    by_reach : slice_index (unit_content log.entries u) i ≡ slice_index content i
        → list_any (λ (c : List ℕ). not (bytes_eq (piece j c) (piece j content))) (if is_at_risk log.entries k u.entry then candidates log k s below else []) ≡ false
        → (list_any (λ (c : List ℕ). not (bytes_eq (piece j c) (piece j content))) (candidates log k s below) ≡ false
        → shown log (departures choice (parts_at_risk way log.entries k)) s i below ≡ slice_index content i)
        → survives (departures choice (parts_at_risk way log.entries k)) i u
        ≡ (if is_at_risk log.entries k u.entry then kept_at (choice (part_with way log.entries u)) (part_with way log.entries u) u i else true)
        → (r : Bool) → is_at_risk log.entries k u.entry ≡ r → (b : Bool) → survives (departures choice (parts_at_risk way log.entries k)) i u ≡ b
        → (if b then slice_index (unit_content log.entries u) i else shown log (departures choice (parts_at_risk way log.entries k)) s i below) ≡ slice_index content i
    by_reach own rest again by r risk true reaches = own
    by_reach own rest again by true risk false reaches =
        again (ap (λ b. list_any (λ (c : List ℕ). not (bytes_eq (piece j c) (piece j content))) (if b then candidates log k s below else [])) (sym risk) ∙ rest)
    by_reach own rest again by false risk false reaches =
        let bad : false ≡ true = sym reaches ∙ by ∙ ap (λ b. if b then kept_at (choice (part_with way log.entries u)) (part_with way log.entries u) u i else true) risk in
        cc

-- of fates of one kind

single : {A : Type 0} (alike : A → A → Bool) (laws : AreKinds alike) (d : A) (xs : List A) (y : A) → nat_lt 1 (length (firsts alike xs)) ≡ false → IsAmong xs y
    → alike (slice_index_or xs 0 d) y ≡ true
single alike laws d [] y few among = absurd among
single alike laws d (x ∷ xs) y few among = by_rest (filter (λ z. not (alike x z)) (firsts alike xs)) few (one_first alike laws (x ∷ xs) y among)
  where
    by_rest : (zs : List _) → nat_lt 1 (suc (length zs)) ≡ false → OfOne (λ z. alike z y ≡ true) (x ∷ zs) → alike x y ≡ true
    by_rest [] few (inl own) = own.0
    by_rest [] few (inr other) = absurd other.1
    by_rest (z ∷ zs) few one = let many : nat_lt 1 (suc (suc (length zs))) ≡ true = grind (arith, nat_tests) in let bad : true ≡ false = sym many ∙ few in cc

same_shown : (a b : Bool) → (if a then b else not b) ≡ true → a ≡ b
same_shown true true is = refl
same_shown true false is = let bad : false ≡ true = is in cc
same_shown false true is = let bad : false ≡ true = is in cc
same_shown false false is = refl

among_passes : {A : Type 0} (test : A → Bool) (xs : List A) (x : A) → list_all test xs ≡ true → IsAmong xs x → test x ≡ true
among_passes test [] x all among = absurd among
among_passes test (y ∷ ys) x all (inl same) = ap test (sym same) ∙ first_so (test y) (list_all test ys) all
among_passes test (y ∷ ys) x all (inr rest) = among_passes test ys x (second_so (test y) (list_all test ys) all) rest

-- What is known of one unit of a row: with both choices the same of the wanted piece reaches the device, and where nothing does the rows
-- below show the same; or the rows below show what the unit has.
data Agree (a b : Bool) (own first second : ℕ) : Type 0 where
  alike : a ≡ b → (a ≡ false → first ≡ second) → Agree a b own first second
  equal : first ≡ own → second ≡ own → Agree a b own first second

row_step : (risk a b one two : Bool) (own first second : ℕ) → one ≡ (if risk then a else true) → two ≡ (if risk then b else true)
    → (risk ≡ true → Agree a b own first second) → (if one then own else first) ≡ (if two then own else second)
row_step false a b one two own first second is_one is_two known =
    ap (λ v. if v then own else first) is_one ∙ sym (ap (λ v. if v then own else second) is_two)
row_step true a b one two own first second is_one is_two known =
    ap (λ v. if v then own else first) is_one ∙ by_known a b (known refl) ∙ sym (ap (λ v. if v then own else second) is_two)
  where
    by_alike : (c d : Bool) → c ≡ d → (c ≡ false → first ≡ second) → (if c then own else first) ≡ (if d then own else second)
    by_alike true true same rest = refl
    by_alike true false same rest = let bad : true ≡ false = same in cc
    by_alike false true same rest = let bad : false ≡ true = same in cc
    by_alike false false same rest = rest refl

    by_equal : (c d : Bool) → first ≡ own → second ≡ own → (if c then own else first) ≡ (if d then own else second)
    by_equal true true x y = refl
    by_equal true false x y = sym y
    by_equal false true x y = x
    by_equal false false x y = x ∙ sym y

    by_known : (c d : Bool) → Agree c d own first second → (if c then own else first) ≡ (if d then own else second)
    by_known c d (alike same rest) = by_alike c d same rest
    by_known c d (equal x y) = by_equal c d x y

at_risk : (log : LogValue) (way : By) (k s : ℕ) (c : Case) (one two : Choice) (u : LogUnit) (below : List LogUnit) (wanted : List ℕ) (i : ℕ) → k ≤ length log.entries → i < 512
    → Includes one c → Includes two c → ((v : LogUnit) → IsAmong below v → IsAmong (units_before log.entries k) v) → IsAmong wanted (i / 64)
    → split_or (split_in_row log way k s c below) (part_with way log.entries u) u (filter (matters log k s u below) wanted) (c (part_with way log.entries u)) ≡ None
    → ((pieces : List ℕ) → split_in_row log way k s c below pieces ≡ None → IsAmong pieces (i / 64)
    → shown log (departures one (parts_at_risk way log.entries k)) s i below ≡ shown log (departures two (parts_at_risk way log.entries k)) s i below)
    → Agree (shows (one (part_with way log.entries u)) (part_with way log.entries u) u (i / 64)) (shows (two (part_with way log.entries u)) (part_with way log.entries u) u (i / 64))
    (slice_index (unit_content log.entries u) i) (shown log (departures one (parts_at_risk way log.entries k)) s i below)
    (shown log (departures two (parts_at_risk way log.entries k)) s i below)
at_risk log way k s c one two u below wanted i le low in_one in_two units want none again =
    by_matter (matters log k s u below (i / 64)) refl
  where
    by_few : (b : Bool) → nat_lt 1 (length (firsts (show_alike (part_with way log.entries u) u (filter (matters log k s u below) wanted)) (c (part_with way log.entries u)))) ≡ b
        → (if b then Some (record { part = part_with way log.entries u; groups = kinds (show_alike (part_with way log.entries u) u (filter (matters log k s u below) wanted)) (c (part_with way log.entries u)) })
        else split_in_row log way k s c below (filter (λ j. not (shows (slice_index_or (c (part_with way log.entries u)) 0 None) (part_with way log.entries u) u j)) (filter (matters log k s u below) wanted))) ≡ None
        → IsAmong (filter (matters log k s u below) wanted) (i / 64)
        → Agree (shows (one (part_with way log.entries u)) (part_with way log.entries u) u (i / 64)) (shows (two (part_with way log.entries u)) (part_with way log.entries u) u (i / 64))
        (slice_index (unit_content log.entries u) i) (shown log (departures one (parts_at_risk way log.entries k)) s i below)
        (shown log (departures two (parts_at_risk way log.entries k)) s i below)
    by_few true many is here = absurd (let bad : Some _ ≡ None = is in cc)
    by_few false few is here =
        let p : Part = part_with way log.entries u in
        let pieces : List ℕ = filter (matters log k s u below) wanted in
        let f : Option Fate = slice_index_or (c p) 0 None in
        let of : (g : Option Fate) → IsAmong (c p) g → shows f p u (i / 64) ≡ shows g p u (i / 64) =
        λ g among. same_shown (shows f p u (i / 64)) (shows g p u (i / 64))
        (among_passes (λ j. if shows f p u j then shows g p u j else not (shows g p u j)) pieces (i / 64)
        (single (show_alike p u pieces) (shown_kinds p u pieces) None (c p) g few among) here) in
        let of_one = of (one p) (in_one p) in
        let of_two = of (two p) (in_two p) in
        alike (sym of_one ∙ of_two)
        (λ hidden.
        let unseen : not (shows f p u (i / 64)) ≡ true = ap not (of_one ∙ hidden) in
        again (filter (λ j. not (shows f p u j)) pieces) is (kept_among (λ j. not (shows f p u j)) pieces (i / 64) here unseen))

    by_matter : (b : Bool) → matters log k s u below (i / 64) ≡ b
        → Agree (shows (one (part_with way log.entries u)) (part_with way log.entries u) u (i / 64)) (shows (two (part_with way log.entries u)) (part_with way log.entries u) u (i / 64))
        (slice_index (unit_content log.entries u) i) (shown log (departures one (parts_at_risk way log.entries k)) s i below)
        (shown log (departures two (parts_at_risk way log.entries k)) s i below)
    by_matter true is =
        by_few (nat_lt 1 (length (firsts (show_alike (part_with way log.entries u) u (filter (matters log k s u below) wanted)) (c (part_with way log.entries u))))) refl none
        (kept_among (matters log k s u below) wanted (i / 64) want is)
    by_matter false is =
        equal (all_alike_shown log way k s one below (unit_content log.entries u) i (i / 64) le low refl units is)
        (all_alike_shown log way k s two below (unit_content log.entries u) i (i / 64) le low refl units is)

-- where no part of a row tells the choices of a case apart, a byte of a wanted piece is the same with all of them
row_alike : (log : LogValue) (way : By) (k s : ℕ) (c : Case) (one two : Choice) (us : List LogUnit) (wanted : List ℕ) (i : ℕ) → k ≤ length log.entries → i < 512
    → Includes one c → Includes two c → ((u : LogUnit) → IsAmong us u → IsAmong (units_before log.entries k) u)
    → split_in_row log way k s c us wanted ≡ None → IsAmong wanted (i / 64)
    → shown log (departures one (parts_at_risk way log.entries k)) s i us ≡ shown log (departures two (parts_at_risk way log.entries k)) s i us
unfolding shown
row_alike log way k s c one two [] wanted i le low in_one in_two units none want = refl
row_alike log way k s c one two (u ∷ below) wanted i le low in_one in_two units none want =
    let p : Part = part_with way log.entries u in
    let sv : Choice → Bool = λ choice. survives (departures choice (parts_at_risk way log.entries k)) i u in
    row_step (is_at_risk log.entries k u.entry) (shows (one p) p u (i / 64)) (shows (two p) p u (i / 64)) (sv one) (sv two) (slice_index (unit_content log.entries u) i)
    (shown log (departures one (parts_at_risk way log.entries k)) s i below) (shown log (departures two (parts_at_risk way log.entries k)) s i below)
    (survives_by log way k one u i le (units u (inl refl)) ∙ ap (λ b. if is_at_risk log.entries k u.entry then b else true) (whole_piece (one p) p u i (i / 64) refl))
    (survives_by log way k two u i le (units u (inl refl)) ∙ ap (λ b. if is_at_risk log.entries k u.entry then b else true) (whole_piece (two p) p u i (i / 64) refl))
    (λ risk.
    at_risk log way k s c one two u below wanted i le low in_one in_two (λ v at. units v (inr at)) want
    (ap (λ b. if b then split_or (split_in_row log way k s c below) p u (filter (matters log k s u below) wanted) (c p) else None) (sym risk) ∙ none)
    (λ pieces more is. row_alike log way k s c one two below pieces i le low in_one in_two (λ v at. units v (inr at)) more is))

-- so the sector is the same with all of them

map_alike : {A : Type 0} (f g : ℕ → A) (a n : ℕ) → ((i : ℕ) → a ≤ i → i < a + n → f i ≡ g i) → map f (range_with_len a n) ≡ map g (range_with_len a n)
map_alike f g a zero each = refl
map_alike f g a (suc n) each =
    let here : f a ≡ g a = each a (omega arith) (omega arith) in
    let rest : map f (range_with_len (a + 1) n) ≡ map g (range_with_len (a + 1) n) = map_alike f g (a + 1) n (λ i low high. each i (omega (arith, low)) (omega (arith, high))) in
    rw (here, rest) refl

reverse_among : {A : Type 0} (xs : List A) (x : A) → IsAmong (reverse xs) x → IsAmong xs x
reverse_among [] x is = is
reverse_among (y ∷ xs) x is =
    let P : List _ → Type 0 = λ zs. IsAmong zs x in
    elim (among_append (reverse xs) (y ∷ []) x (subst P (reverse_onto xs y []) is)) [
      | inl early ↦ inr (reverse_among xs x early)
      | inr late ↦ of_last late
    ]
  where
    of_last : (y ≡ x) ⊎ ⊥ → IsAmong (y ∷ xs) x
    of_last (inl same) = inl same
    of_last (inr none) = absurd none

pub row_units : (es : List Entry) (k s : ℕ) (u : LogUnit) → IsAmong (row es k s) u → IsAmong (units_before es k) u
unfolding covering
row_units es k s u is = reverse_among (units_before es k) u (among_kept (λ (v : LogUnit). v.sector == s) (reverse (units_before es k)) u is).0

sector_alike : (log : LogValue) (way : By) (k s : ℕ) (c : Case) (one two : Choice) → k ≤ length log.entries → Includes one c → Includes two c
    → split_in_row log way k s c (row log.entries k s) (range_with_len 0 8) ≡ None
    → sector_after log (units_before log.entries k) (departures one (parts_at_risk way log.entries k)) s
    ≡ sector_after log (units_before log.entries k) (departures two (parts_at_risk way log.entries k)) s
unfolding sector_after
sector_alike log way k s c one two le in_one in_two none =
    let us : List LogUnit = units_before log.entries k in
    let by_row : (ds : List Departure) (i : ℕ) → byte_after log us ds s i ≡ shown log ds s i (row log.entries k s) =
    λ ds i. ap (λ (xs : List LogUnit). byte_after log xs ds s i) (sym (reverse-reverse us)) ∙ byte_of_row log (reverse us) ds s i in
    map_alike (byte_after log us (departures one (parts_at_risk way log.entries k)) s) (byte_after log us (departures two (parts_at_risk way log.entries k)) s) 0 512
    (λ i low high.
    let within : i < 512 = omega (arith, high) in
    let wanted : IsAmong (range_with_len 0 8) (i / 64) = eighth i within in
    by_row (departures one (parts_at_risk way log.entries k)) i
    ∙ row_alike log way k s c one two (row log.entries k s) (range_with_len 0 8) i le within in_one in_two (row_units log.entries k s) none wanted
    ∙ sym (by_row (departures two (parts_at_risk way log.entries k)) i))
  where
    among_numbers : (a n j : ℕ) → a ≤ j → j < a + n → IsAmong (range_with_len a n) j
    among_numbers a zero j low high = absurd (omega (arith, low, high))
    among_numbers a (suc n) j low high = elim (eqb_tells a j) [
      | inl same ↦ inl same.1
      | inr other ↦ let apart = other.1 in inr (among_numbers (a + 1) n j (omega (arith, low, apart)) (omega (arith, high)))
    ]

    eighth : (i : ℕ) → i < 512 → IsAmong (range_with_len 0 8) (i / 64)
    eighth i within = among_numbers 0 8 (i / 64) (omega arith) (omega (arith, within))

-- a sector, by the bytes of its row
pub sector_by_row : (log : LogValue) (k s : ℕ) (ds : List Departure) (out : List ℕ) → length out ≡ 512
    → ((i : ℕ) → i < 512 → slice_index out i ≡ shown log ds s i (row log.entries k s)) → sector_after log (units_before log.entries k) ds s ≡ out
unfolding sector_after
sector_by_row log k s ds out long each =
    let us : List LogUnit = units_before log.entries k in
    let by_row : (i : ℕ) → byte_after log us ds s i ≡ shown log ds s i (row log.entries k s) =
    λ i. ap (λ (xs : List LogUnit). byte_after log xs ds s i) (sym (reverse-reverse us)) ∙ byte_of_row log (reverse us) ds s i in
    same_number_lists (map (byte_after log us ds s) (range_with_len 0 512)) out (length-map-range_with_len (byte_after log us ds s) 0 512 ∙ sym long)
    (λ i less.
    let low : i < 512 = omega (arith, less, length-map-range_with_len (byte_after log us ds s) 0 512) in
    let here : 0 + i ≡ i = omega arith in
    get_or-map-range_with_len (byte_after log us ds s) 0 512 i i 0 low here ∙ by_row i ∙ sym (each i low))

pub initial_at : (log : LogValue) (s i : ℕ) → i < 512 → slice_index (initial_sector log.initial s) i ≡ initial_byte log.initial s i
unfolding initial_sector
initial_at log s i low = let here : 0 + i ≡ i = omega arith in get_or-map-range_with_len (initial_byte log.initial s) 0 512 i i 0 low here

pub initial_long : (log : LogValue) (s : ℕ) → length (initial_sector log.initial s) ≡ 512
unfolding initial_sector
initial_long log s = length-map-range_with_len (initial_byte log.initial s) 0 512

length_device : (log : LogValue) (us : List LogUnit) (ds : List Departure) → length (device_after log us ds) ≡ log.sectors
unfolding device_after
length_device log us ds = length-map-range_with_len (sector_after log us ds) 0 log.sectors

-- the sectors of a footprint in which no part tells the choices apart
sectors_alike : (log : LogValue) (way : By) (k : ℕ) (c : Case) (one two : Choice) (sectors : List ℕ) → k ≤ length log.entries → Includes one c → Includes two c
    → first_split log way k c sectors ≡ None → HaveSame (image_at log way k one) (image_at log way k two) sectors
sectors_alike log way k c one two [] le in_one in_two none = tt
sectors_alike log way k c one two (s ∷ sectors) le in_one in_two none =
    by_first (λ rest. sectors_alike log way k c one two sectors le in_one in_two rest) (split_in_row log way k s c (row log.entries k s) (range_with_len 0 8)) refl none
  where
    there : (choice : Choice) → s < log.sectors
        → slice_get (image_at log way k choice) s ≡ Some (sector_after log (units_before log.entries k) (departures choice (parts_at_risk way log.entries k)) s)
    there choice lt = device_there log (units_before log.entries k) (departures choice (parts_at_risk way log.entries k)) s lt

    past : (choice : Choice) → log.sectors ≤ s → slice_get (image_at log way k choice) s ≡ None
    past choice ge = slice_get_past (image_at log way k choice) s (let long = length_device log (units_before log.entries k) (departures choice (parts_at_risk way log.entries k)) in omega (arith, long, ge))

    here : split_in_row log way k s c (row log.entries k s) (range_with_len 0 8) ≡ None → slice_get (image_at log way k one) s ≡ slice_get (image_at log way k two) s
    here is = elim (cases_lt s log.sectors) [
      | inl lt ↦ there one lt ∙ ap (λ v. Some v) (sector_alike log way k s c one two le in_one in_two is) ∙ sym (there two lt)
      | inr ge ↦ past one ge ∙ sym (past two ge)
    ]

    by_first : (first_split log way k c sectors ≡ None → HaveSame (image_at log way k one) (image_at log way k two) sectors) → (o : Option Split)
        → split_in_row log way k s c (row log.entries k s) (range_with_len 0 8) ≡ o → or_else o (first_split log way k c sectors) ≡ None
        → HaveSame (image_at log way k one) (image_at log way k two) (s ∷ sectors)
    by_first again None is rest = (here is, again rest)
    by_first again (Some it) is rest = absurd (let bad : Some it ≡ None = rest in cc)

-- a case of which the representative is one of its choices
own_choice : (choice : Choice) (c : Case) → Includes choice c → Includes (representative c) c
own_choice choice c all p = of_some (c p) (all p)
  where
    of_some : (fates : List (Option Fate)) → IsAmong fates (choice p) → IsAmong fates (slice_index_or fates 0 None)
    of_some [] is = absurd is
    of_some (f ∷ fs) is = inl refl

pub leaves_look_alike : LeavesLookAlike
leaves_look_alike s c choice within whole includes =
    sectors_alike s.log s.way s.cut c (representative c) choice (s.program.footprint (image_at s.log s.way s.cut (representative c))) within (own_choice choice c includes) includes whole

leaf_whole : (s : Subject) (cs ls left : List Case) (i : ℕ) (c : Case) → AreLeaves s cs ls left → slice_get ls i ≡ Some c → split_of s c ≡ None
leaf_whole s cs ls left i c no_case there = absurd (let bad : None ≡ Some c = there in cc)
leaf_whole s cs ls left i c (is_beyond b rest ls2 left2 out more) there = leaf_whole s rest ls left2 i c more there
leaf_whole s cs ls left zero c (is_leaf b rest ls2 left2 within whole more) there =
    let same : b ≡ c = same_Some b c there in
    let P : Case → Type 0 = λ x. split_of s x ≡ None in
    subst P same whole
leaf_whole s cs ls left (suc i) c (is_leaf b rest ls2 left2 within whole more) there = leaf_whole s rest ls2 left i c more there
leaf_whole s cs ls left i c (is_split b it rest ls2 left2 within is more) there = leaf_whole s (map (with_part b it.part) it.groups ++ rest) ls left i c more there

long_sectors : (log : LogValue) (us : List LogUnit) (ds : List Departure) (n : ℕ) (sector : List ℕ) → slice_get (device_after log us ds) n ≡ Some sector → length sector ≡ 512
unfolding sector_after
long_sectors log us ds n sector there = elim (cases_lt n log.sectors) [
  | inl lt ↦
      let same : sector ≡ sector_after log us ds n = same_Some sector (sector_after log us ds n) (sym there ∙ device_there log us ds n lt) in
      ap (λ (xs : List ℕ). length xs) same ∙ length-map-range_with_len (byte_after log us ds n) 0 512
  | inr ge ↦
      let none = slice_get_past (device_after log us ds) n (let long = length_device log us ds in omega (arith, long, ge)) in
      let bad : None ≡ Some sector = sym none ∙ there in
      cc
]

pub leaves_end_alike : LeavesEndAlike
leaves_end_alike s tears leaves left i c choice is within tells are there includes =
    let us : List LogUnit = units_before s.log.entries s.cut in
    let ds : Choice → List Departure = λ own. departures own (parts_at_risk s.way s.log.entries s.cut) in
    let device = image_at s.log s.way s.cut (representative c) in
    let other = image_at s.log s.way s.cut choice in
    let whole = leaf_whole s (whole_case tears ∷ []) leaves left i c are there in
    tells device other
    (record {
      count = length_device s.log us (ds (representative c)) ∙ sym (length_device s.log us (ds choice));
      sectors = λ n sector at. long_sectors s.log us (ds (representative c)) n sector at;
      others = λ n sector at. long_sectors s.log us (ds choice) n sector at;
    })
    (leaves_look_alike s c choice within whole includes)
