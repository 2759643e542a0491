-- The version table: the units of a sector in it, and those of them before a cut.
use Rattle.std.proofs.Common.{ℕ, zero, suc, ◌≡◌, ◌≢◌, ◌+◌, ◌*◌, ◌-◌, ◌<◌, ◌≤◌, ◌==◌, ◌&&◌, not, Bool, true, cond, List, [], ◌∷◌, ◌++◌, length, filter, take, drop, slice_get, slice_index_or, Some, refl, sym, subst, ◌∙◌, ap, inl, inr, arith, append_assoc}
use Rattle.std.specs.Cmp.{nat_cmp_is}
use Rattle.std.specs.List.{slice_range, All}
use Rattle.std.specs.List.Sorted.{IsNonDecreasingBy, IsStableByKey, ties}
use Rattle.std.specs.Ordering.{is_lt, nat_cmp}
use Rattle.std.specs.declared.cmp.Ordering.TheVariants.{Less, Equal, Greater}
use Rattle.std.proofs.Math.Seq.{take-append_seam}
use Rattle.std.proofs.lemmas.Bool.{cases_lt, eq-eqb, eqb-true, ne_eqb}
use Rattle.std.proofs.lemmas.List.{length-append, length-drop, length-take-le, get_or_append_left, get_or-append_right, get_or_default, get_or-drop, get_or-take, take-append-drop, append-nil}
use Rattle.std.proofs.lemmas.List.Elements.{filter-append, filter_passes, All-filter}
use Rattle.std.proofs.lemmas.List.FromFn.{length-map-range_with_len, get_or-map-range_with_len}
use Rattle.std.proofs.lemmas.List.Kept.{IsNonDecreasingBy-filter}
use Rattle.std.proofs.lemmas.Option.{slice_get_within, slice_get_cases, get_or_from_slice_get}
use Rattle.logfmt.specs.declared.entry.Entry.{Entry}
use Rattle.logfmt.specs.Bounds.{LogValue, IsLog}
use Rattle.epochs.specs.declared.unit.Unit.{Unit as LogUnit}
use Rattle.epochs.specs.Units.{unit_of, units_of_entry, units_before}
use Rattle.epochs.specs.Plan.{IsUnit}
use Rattle.epochs.proofs.Growth.{units_before-next}
use Rattle.images.specs.Table.{covering, versions, AreStarts, Divides}
use Rattle.images.proofs.Entries.{unit_of_entry}

-- one unit more
pub covering-push : (s : ℕ) (us : List LogUnit) (u : LogUnit) → covering s (us ++ u ∷ []) ≡ covering s us ++ cond (u.sector == s) (u ∷ []) []
unfolding covering
covering-push s us u = filter-append (λ (v : LogUnit). v.sector == s) us (u ∷ [])

-- of units of which none covers a sector none does, and of units that all cover it all do
none_covered : (us : List LogUnit) (n : ℕ) → ((k : ℕ) (d : LogUnit) → k < length us → (slice_index_or us k d).sector ≢ n) → covering n us ≡ []
unfolding covering
none_covered [] n other = refl
none_covered (u ∷ us) n other =
    rw (ne_eqb u.sector n (other 0 u (omega arith))) (none_covered us n (λ k d lt. other (suc k) d (omega (arith, lt))))

all_covered : (us : List LogUnit) (n : ℕ) → ((k : ℕ) (d : LogUnit) → k < length us → (slice_index_or us k d).sector ≡ n) → covering n us ≡ us
unfolding covering
all_covered [] n same = refl
all_covered (u ∷ us) n same =
    rw (eq-eqb u.sector n (same 0 u (omega arith))) (ap (λ (vs : List LogUnit). u ∷ vs) (all_covered us n (λ k d lt. same (suc k) d (omega (arith, lt)))))

covering-append : (n : ℕ) (us vs : List LogUnit) → covering n (us ++ vs) ≡ covering n us ++ covering n vs
unfolding covering
covering-append n us vs = filter-append (λ (v : LogUnit). v.sector == n) us vs

-- in a table that rises the units of a sector stand between those before it and those after it
pub covering_between : (us : List LogUnit) (n first end : ℕ) → first ≤ length us → end ≤ length us
    → ((k : ℕ) (d : LogUnit) → k < first → (slice_index_or us k d).sector < n)
    → ((k : ℕ) (d : LogUnit) → first ≤ k → k < length us → n ≤ (slice_index_or us k d).sector)
    → ((k : ℕ) (d : LogUnit) → k < end → (slice_index_or us k d).sector < n + 1)
    → ((k : ℕ) (d : LogUnit) → end ≤ k → k < length us → n + 1 ≤ (slice_index_or us k d).sector)
    → (first ≤ end) × (slice_range us first end ≡ covering n us)
covering_between us n first end short bound low from below above =
    let d : LogUnit = record { entry = 0; place = 0; sector = 0 } in
    let order : first ≤ end = elim (cases_lt end first) [
      | inl less ↦
          let small = low end d less in
          let large = above end d (omega arith) (omega (arith, less, short)) in
          absurd (omega (arith, small, large))
      | inr more ↦ more
    ] in
    let front : List LogUnit = take first us in
    let back : List LogUnit = drop first us in
    let middle : List LogUnit = take (end - first) back in
    let rest : List LogUnit = drop (end - first) back in
    let front_long : length front ≡ first = length-take-le first us short in
    let back_long : length back ≡ length us - first = length-drop first us in
    let middle_long : length middle ≡ end - first = length-take-le (end - first) back (omega (arith, back_long, bound, order)) in
    let rest_long : length rest ≡ length back - (end - first) = length-drop (end - first) back in
    let none_before : covering n front ≡ [] = none_covered front n (λ k e lt same.
    let inside : k < first = omega (arith, lt, front_long) in
    let at = ap (λ (u : LogUnit). u.sector) (get_or-take first us k e inside) in
    let small = low k e inside in
    absurd (omega (arith, at, small, same))) in
    let none_after : covering n rest ≡ [] = none_covered rest n (λ k e lt same.
    let place : first + ((end - first) + k) ≡ end + k = omega (arith, order) in
    let at = ap (λ (u : LogUnit). u.sector) (get_or-drop (end - first) back k e ∙ get_or-drop first us ((end - first) + k) e ∙ ap (λ i. slice_index_or us i e) place) in
    let large = above (end + k) e (omega arith) (omega (arith, lt, rest_long, back_long, order, bound, short)) in
    absurd (omega (arith, at, large, same))) in
    let all_between : covering n middle ≡ middle = all_covered middle n (λ k e lt.
    let inside : k < end - first = omega (arith, lt, middle_long) in
    let at = ap (λ (u : LogUnit). u.sector) (get_or-take (end - first) back k e inside ∙ get_or-drop first us k e) in
    let large = from (first + k) e (omega arith) (omega (arith, inside, bound, order)) in
    let small = below (first + k) e (omega (arith, inside, order)) in
    omega (arith, at, large, small)) in
    let whole : us ≡ front ++ (middle ++ rest) = sym (take-append-drop first us) ∙ ap (λ (vs : List LogUnit). front ++ vs) (sym (take-append-drop (end - first) back)) in
    let parts : covering n us ≡ covering n front ++ (covering n middle ++ covering n rest) =
    ap (covering n) whole ∙ covering-append n front (middle ++ rest) ∙ ap (λ (vs : List LogUnit). covering n front ++ vs) (covering-append n middle rest) in
    (order, sym (parts ∙ (rw (none_before, none_after, all_between) (append-nil middle))))

-- where the sectors of pages begin: none yet, and one more
pub no_starts : (us : List LogUnit) → (length {A = ℕ} [] ≡ 0) × AreStarts us []
no_starts us = (refl, λ p d lt. absurd (omega (arith, lt)))

pub one_start_more : (us : List LogUnit) (starts : List ℕ) (page place : ℕ) → (length starts ≡ page) × AreStarts us starts → Divides us (64 * page) place
    → (length (starts ++ place ∷ []) ≡ page + 1) × AreStarts us (starts ++ place ∷ [])
one_start_more us starts page place so next =
    let long = length-append starts (place ∷ []) in
    let count = so.0 in (
      omega (arith, long, count),
      λ p d lt. elim (cases_lt p (length starts)) [
        | inl old ↦ subst (λ n. Divides us (64 * p) n) (sym (get_or_append_left starts (place ∷ []) d p old)) (so.1 p d old)
        | inr new ↦
            let same : p ≡ page = omega (arith, lt, long, new, count) in
            let last : slice_index_or (starts ++ place ∷ []) p d ≡ place =
            get_or-append_right starts (place ∷ []) (length starts) p d refl new ∙ ap (λ n. slice_index_or (place ∷ []) n d) (let none : p - length starts ≡ 0 = omega (arith, same, count) in none) in
            subst (λ n. Divides us (64 * p) n) (sym last) (subst (λ n. Divides us (64 * n) place) (sym same) next)
      ],
    )

-- a search by halves, between two places
pub record Narrows (us : List LogUnit) (s low high first last : ℕ) : Type 0 where
  pub from : low ≤ first
  pub order : first ≤ last
  pub to : last ≤ high
  pub bound : high ≤ length us
  pub before : (k : ℕ) (d : LogUnit) → k < first → (slice_index_or us k d).sector < s
  pub beyond : (k : ℕ) (d : LogUnit) → last ≤ k → k < length us → s ≤ (slice_index_or us k d).sector

pub narrow_begins : (us : List LogUnit) (s low high : ℕ) → low ≤ high → high ≤ length us
    → ((k : ℕ) (d : LogUnit) → k < low → (slice_index_or us k d).sector < s)
    → ((k : ℕ) (d : LogUnit) → high ≤ k → k < length us → s ≤ (slice_index_or us k d).sector)
    → Narrows us s low high low high
narrow_begins us s low high order bound before beyond = record { from = omega arith; order = order; to = omega arith; bound = bound; before = before; beyond = beyond }

pub goes_up : (us : List LogUnit) (s low high first last middle : ℕ) (e : LogUnit) → IsNonDecreasingBy (λ (v : LogUnit). v.sector) us → Narrows us s low high first last
    → first ≤ middle → middle < last → (slice_index_or us middle e).sector < s → Narrows us s low high (middle + 1) last
goes_up us s low high first last middle e rise so ge lt small =
    let from = so.from in
    let to = so.to in
    let bound = so.bound in
    let inside : middle < length us = omega (arith, lt, to, bound) in
    record {
      from = omega (arith, from, ge);
      order = omega (arith, lt);
      to = to;
      bound = bound;
      before = λ k d less.
          let up = rise k middle d (omega (arith, less)) inside in
          let same = ap (λ (v : LogUnit). v.sector) (get_or_default us middle d e inside) in
          omega (arith, up, same, small);
      beyond = so.beyond;
    }

pub goes_down : (us : List LogUnit) (s low high first last middle : ℕ) (e : LogUnit) → IsNonDecreasingBy (λ (v : LogUnit). v.sector) us → Narrows us s low high first last
    → first ≤ middle → middle < last → s ≤ (slice_index_or us middle e).sector → Narrows us s low high first middle
goes_down us s low high first last middle e rise so ge lt large =
    let to = so.to in
    record {
      from = so.from;
      order = ge;
      to = omega (arith, lt, to);
      bound = so.bound;
      before = so.before;
      beyond = λ k d more within.
          let inside : middle < length us = omega (arith, more, within) in
          let up = rise middle k d more within in
          let same = ap (λ (v : LogUnit). v.sector) (get_or_default us middle d e inside) in
          omega (arith, up, same, large);
    }

pub narrowed : (us : List LogUnit) (s low high first last : ℕ) → Narrows us s low high first last → last ≤ first → Divides us s first
narrowed us s low high first last so done =
    let to = so.to in
    let bound = so.bound in
    let order = so.order in
    record {
      bound = omega (arith, to, bound, order);
      before = so.before;
      beyond = λ k d more within. so.beyond k d (omega (arith, more, done)) within;
    }

-- a place that is below one number, and one that is no less than another, of which the first is no greater
pub in_order : (us : List LogUnit) (s t low high : ℕ) → s ≤ t → low ≤ length us → high ≤ length us
    → ((k : ℕ) (d : LogUnit) → k < low → (slice_index_or us k d).sector < s)
    → ((k : ℕ) (d : LogUnit) → high ≤ k → k < length us → t ≤ (slice_index_or us k d).sector) → low ≤ high
in_order us s t low high le short bound before beyond = elim (cases_lt high low) [
  | inl less ↦
      let d : LogUnit = record { entry = 0; place = 0; sector = 0 } in
      let small = before high d less in
      let large = beyond high d (omega arith) (omega (arith, less, short)) in
      absurd (omega (arith, small, large, le))
  | inr more ↦ more
]

-- a stable sort by sector keeps the units of a sector in their order
ties_tell : (n m : ℕ) → (not (is_lt (nat_cmp n m)) && not (is_lt (nat_cmp m n))) ≡ (m == n)
ties_tell n m = elim (cases_lt n m) [
  | inl less ↦
      let one : nat_cmp n m ≡ Less = sym (nat_cmp_is n m Less less) in
      rw (one, ne_eqb m n (λ e. omega (arith, e, less))) refl
  | inr past ↦ elim (cases_lt m n) [
    | inl more ↦
        let one : nat_cmp n m ≡ Greater = sym (nat_cmp_is n m Greater more) in
        let other : nat_cmp m n ≡ Less = sym (nat_cmp_is m n Less more) in
        rw (one, other, ne_eqb m n (λ e. omega (arith, e, more))) refl
    | inr least ↦
        let same : n ≡ m = omega (arith, past, least) in
        let one : nat_cmp n m ≡ Equal = sym (nat_cmp_is n m Equal same) in
        let other : nat_cmp m n ≡ Equal = sym (nat_cmp_is m n Equal (sym same)) in
        rw (one, other, eq-eqb m n (sym same)) refl
  ]
]

filter_alike : (p q : LogUnit → Bool) → ((u : LogUnit) → p u ≡ q u) → (us : List LogUnit) → filter p us ≡ filter q us
filter_alike p q same [] = refl
filter_alike p q same (u ∷ us) = rw (same u, filter_alike p q same us) refl

pub covering_sorted : (us sorted : List LogUnit) (s : ℕ) → IsStableByKey (λ (u : LogUnit). u.sector) nat_cmp us sorted → covering s sorted ≡ covering s us
unfolding covering
covering_sorted us sorted s stable =
    let d : LogUnit = record { entry = 0; place = 0; sector = s } in
    let p : LogUnit → Bool = ties (λ (x y : LogUnit). is_lt (nat_cmp x.sector y.sector)) d in
    let q : LogUnit → Bool = λ u. u.sector == s in
    let same : (u : LogUnit) → p u ≡ q u = λ u. ties_tell s u.sector in
    sym (filter_alike p q same sorted) ∙ stable d ∙ filter_alike p q same us

-- what holds of each unit of two lists
all_of_both : (P : LogUnit → Type 0) (xs ys : List LogUnit) → All P xs → All P ys → All P (xs ++ ys)
all_of_both P xs ys first second = λ i d lt. elim (cases_lt i (length xs)) [
  | inl within ↦ subst P (sym (get_or_append_left xs ys d i within)) (first i d within)
  | inr past ↦
      let long = length-append xs ys in
      subst P (sym (get_or-append_right xs ys (length xs) i d refl past)) (second (i - length xs) d (omega (arith, lt, past, long)))
]

all_of_entry : (P : LogUnit → Type 0) (e : ℕ) (x : Entry) → ((j : ℕ) → j < x.count → P (unit_of e x j)) → All P (units_of_entry e x)
all_of_entry P e x each = λ i d lt.
    let long = length-map-range_with_len (unit_of e x) 0 x.count in
    let within : i < x.count = omega (arith, lt, long) in
    let here : 0 + i ≡ i = omega arith in
    subst P (sym (get_or-map-range_with_len (unit_of e x) 0 x.count i i d within here)) (each i within)

all_of_none : (P : LogUnit → Type 0) → All P []
all_of_none P = λ i d lt. absurd (omega (arith, lt))

-- what holds of each unit of a log
pub all_units : (P : LogUnit → Type 0) (es : List Entry) (k : ℕ) → k ≤ length es
    → ((e : ℕ) (x : Entry) (j : ℕ) → e < k → slice_get es e ≡ Some x → j < x.count → P (unit_of e x j)) → All P (units_before es k)
all_units P es zero le each = all_of_none P
all_units P es (suc k) le each = elim (slice_get_cases es k).1 [
  | inl a ↦
      let Q : List LogUnit → Type 0 = λ us. All P us in
      subst Q (sym (units_before-next es k a.0 a.2))
      (all_of_both P (units_before es k) (units_of_entry k a.0)
      (all_units P es k (omega (arith, le)) (λ e x j lt. each e x j (omega (arith, lt))))
      (all_of_entry P k a.0 (λ j lt. each k a.0 j (omega arith) a.2 lt)))
  | inr past ↦ absurd (omega (arith, past.0, le))
]

-- each unit before a cut is one of the log
pub units_of_log : (log : LogValue) (k : ℕ) → IsLog log → k ≤ length log.entries → All (λ u. IsUnit log u × (u.entry < k)) (units_before log.entries k)
units_of_log log k is le =
    all_units (λ u. IsUnit log u × (u.entry < k)) log.entries k le (λ e x j lt there within. (unit_of_entry log e x j is there within, lt))

-- the units from cut k on
pub record Later (es : List Entry) (k n : ℕ) : Type 0 where
  pub rest : List LogUnit
  pub both : units_before es n ≡ units_before es k ++ rest
  pub later : All (λ u. k ≤ u.entry) rest

later_by : (es : List Entry) (k m : ℕ) → k + m ≤ length es → Later es k (k + m)
later_by es k zero le =
    let here : k + 0 ≡ k = omega arith in
    record {
      rest = [];
      both = ap (units_before es) here ∙ sym (append-nil (units_before es k));
      later = all_of_none (λ u. k ≤ u.entry);
    }
later_by es k (suc m) le = elim (slice_get_cases es (k + m)).1 [
  | inl a ↦
      let was = later_by es k m (omega (arith, le)) in
      let next : k + suc m ≡ suc (k + m) = omega arith in
      record {
        rest = was.rest ++ units_of_entry (k + m) a.0;
        both =
            ap (units_before es) next ∙ units_before-next es (k + m) a.0 a.2
            ∙ ap (λ us. us ++ units_of_entry (k + m) a.0) was.both ∙ append_assoc (units_before es k) was.rest (units_of_entry (k + m) a.0);
        later = all_of_both (λ u. k ≤ u.entry) was.rest (units_of_entry (k + m) a.0) was.later (all_of_entry (λ u. k ≤ u.entry) (k + m) a.0 (λ j lt. omega arith));
      }
  | inr past ↦ absurd (omega (arith, past.0, le))
]

-- the units of later entries stand after
pub later_units : (es : List Entry) (k n : ℕ) → k ≤ n → n ≤ length es → Later es k n
later_units es k n le within =
    let back : k + (n - k) ≡ n = omega (arith, le) in
    let P : ℕ → Type 0 = λ m. Later es k m in
    subst P back (later_by es k (n - k) (omega (arith, back, within)))

-- units rise by entry
rising : (xs ys : List LogUnit) (m : ℕ) → IsNonDecreasingBy (λ (u : LogUnit). u.entry) xs → All (λ u. u.entry < m) xs → All (λ u. u.entry ≡ m) ys
    → IsNonDecreasingBy (λ (u : LogUnit). u.entry) (xs ++ ys)
rising xs ys m sorted below at = λ i j d le lt.
    let long = length-append xs ys in
    let entry : LogUnit → ℕ = λ u. u.entry in
    elim (cases_lt j (length xs)) [
      | inl inside ↦
          let first : i < length xs = omega (arith, le, inside) in
          let left = ap entry (get_or_append_left xs ys d i first) in
          let right = ap entry (get_or_append_left xs ys d j inside) in
          let order = sorted i j d le inside in
          omega (arith, left, right, order)
      | inr past ↦
          let right = ap entry (get_or-append_right xs ys (length xs) j d refl past) in
          let last = at (j - length xs) d (omega (arith, lt, past, long)) in
          elim (cases_lt i (length xs)) [
            | inl inside ↦
                let left = ap entry (get_or_append_left xs ys d i inside) in
                let low = below i d inside in
                omega (arith, left, right, low, last)
            | inr over ↦
                let left = ap entry (get_or-append_right xs ys (length xs) i d refl over) in
                let own = at (i - length xs) d (omega (arith, lt, le, over, long)) in
                omega (arith, left, right, own, last)
          ]
    ]

units_rise : (es : List Entry) (k : ℕ) → k ≤ length es → IsNonDecreasingBy (λ (u : LogUnit). u.entry) (units_before es k)
units_rise es zero le = λ i j d order lt. absurd (omega (arith, lt))
units_rise es (suc k) le = elim (slice_get_cases es k).1 [
  | inl a ↦
      let P : List LogUnit → Type 0 = λ us. IsNonDecreasingBy (λ (u : LogUnit). u.entry) us in
      subst P (sym (units_before-next es k a.0 a.2))
      (rising (units_before es k) (units_of_entry k a.0) k (units_rise es k (omega (arith, le)))
      (all_units (λ u. u.entry < k) es k (omega (arith, le)) (λ e x j lt there within. lt))
      (all_of_entry (λ u. u.entry ≡ k) k a.0 (λ j lt. refl)))
  | inr past ↦ absurd (omega (arith, past.0, le))
]

-- a row rises by entry
pub row_rises : (es : List Entry) (k s : ℕ) → k ≤ length es → IsNonDecreasingBy (λ (u : LogUnit). u.entry) (versions es k s)
unfolding covering
row_rises es k s le =
    IsNonDecreasingBy-filter (λ (u : LogUnit). u.entry) (λ (u : LogUnit). u.sector == s) (units_before es k) (units_rise es k le)

-- the part of a list up to where its elements pass a cut
split_at : (row xs ys : List LogUnit) (k count : ℕ) → row ≡ xs ++ ys → All (λ u. u.entry < k) xs → All (λ u. k ≤ u.entry) ys → count ≤ length row
    → ((i : ℕ) (d : LogUnit) → i < count → (slice_index_or row i d).entry < k)
    → ((i : ℕ) (d : LogUnit) → count ≤ i → i < length row → k ≤ (slice_index_or row i d).entry)
    → take count row ≡ xs
split_at row xs ys k count is below above bound before beyond =
    let d : LogUnit = record { entry = 0; place = 0; sector = 0 } in
    let entry : LogUnit → ℕ = λ u. u.entry in
    let long = ap length is ∙ length-append xs ys in
    let here : count ≡ length xs = elim (cases_lt count (length xs)) [
      | inl less ↦
          let inside : count < length row = omega (arith, less, long) in
          let high = beyond count d (omega arith) inside in
          let low = below count d less in
          let same = ap (λ us. (slice_index_or us count d).entry) is ∙ ap entry (get_or_append_left xs ys d count less) in
          absurd (omega (arith, high, low, same))
      | inr past ↦ elim (cases_lt (length xs) count) [
        | inl more ↦
            let low = before (length xs) d more in
            let high = above (length xs - length xs) d (omega (arith, more, bound, long)) in
            let reach : length xs ≤ length xs = omega arith in
            let same = ap (λ us. (slice_index_or us (length xs) d).entry) is ∙ ap entry (get_or-append_right xs ys (length xs) (length xs) d refl reach) in
            absurd (omega (arith, high, low, same))
        | inr most ↦ omega (arith, past, most)
      ]
    ] in
    ap (λ n. take n row) here ∙ ap (take (length xs)) is ∙ take-append_seam xs ys

-- the units of a row that stand before a cut are its first, as many as the search counts
pub versions_before : (es : List Entry) (n k s count : ℕ) (row : List LogUnit) → row ≡ versions es n s → k ≤ n → n ≤ length es → count ≤ length row
    → ((i : ℕ) (d : LogUnit) → i < count → (slice_index_or row i d).entry < k)
    → ((i : ℕ) (d : LogUnit) → count ≤ i → i < length row → k ≤ (slice_index_or row i d).entry)
    → take count row ≡ versions es k s
unfolding covering
versions_before es n k s count row is le within bound before beyond =
    let parts = later_units es k n le within in
    let p : LogUnit → Bool = λ u. u.sector == s in
    let below : All (λ u. u.entry < k) (units_before es k) = all_units (λ u. u.entry < k) es k (omega (arith, le, within)) (λ e x j lt there own. lt) in
    split_at row (filter p (units_before es k)) (filter p parts.rest) k count
    (is ∙ ap (filter p) parts.both ∙ filter-append p (units_before es k) parts.rest)
    (All-filter p (λ u. u.entry < k) (units_before es k) below)
    (All-filter p (λ u. k ≤ u.entry) parts.rest parts.later)
    bound before beyond

-- the units of a row
pub row_units : (log : LogValue) (k s : ℕ) → IsLog log → k ≤ length log.entries
    → (i : ℕ) (u : LogUnit) → slice_get (versions log.entries k s) i ≡ Some u → IsUnit log u × (u.sector ≡ s)
unfolding covering
row_units log k s is le i u there =
    let p : LogUnit → Bool = λ v. v.sector == s in
    let row : List LogUnit = filter p (units_before log.entries k) in
    let lt = slice_get_within row i u there in
    let read : slice_index_or row i u ≡ u = get_or_from_slice_get row i u u there in
    let all : All (λ v. IsUnit log v × (v.entry < k)) row = All-filter p (λ v. IsUnit log v × (v.entry < k)) (units_before log.entries k) (units_of_log log k is le) in
    let P : LogUnit → Type 0 = λ v. IsUnit log v × (v.entry < k) in
    let Q : LogUnit → Type 0 = λ v. p v ≡ true in
    let unit = subst P read (all i u lt) in
    let passes = subst Q read (filter_passes p (units_before log.entries k) i u lt) in
    (unit.0, eqb-true u.sector s passes)
