-- What the departures of an image change: their sectors alone.
use Rattle.std.proofs.Common.{ℕ, zero, suc, ◌≡◌, ◌+◌, ◌*◌, ◌<◌, ◌≤◌, ◌⊎◌, ◌==◌, Bool, true, false, ◌&&◌, cond, if◌then◌else◌, List, [], ◌∷◌, length, map, filter, take, drop, get_or, slice_get, Some, None, refl, sym, subst, ◌∙◌, ap, inl, inr, arith, add-one}
use Rattle.std.specs.Prelude.{sum_by}
use Rattle.std.proofs.lemmas.List.Sums.{sum_by-cons, sum_by_more}
use Rattle.std.specs.List.{All, last_or, slice_index, range_with_len}
use Rattle.std.specs.Option.{option_map_or}
use Rattle.std.proofs.lemmas.Bool.{cases_lt, eq-eqb, ne_eqb}
use Rattle.std.proofs.lemmas.Option.{slice_get_cases, slice_get_within, same_Some, get_or_from_slice_get}
use Rattle.logfmt.specs.Bounds.{LogValue, IsLog}
use Rattle.logfmt.specs.Initial.{initial_byte}
use Rattle.epochs.specs.declared.unit.Unit.{Unit as LogUnit}
use Rattle.epochs.specs.Laws.{last_flush}
use Rattle.epochs.specs.Plan.{IsUnit}
use Rattle.epochs.specs.Units.{unit_of, units_before, unit_content}
use Rattle.choices.specs.declared.choice.Departure.{Departure}
use Rattle.images.specs.Images.{survives, writes, byte_after, sector_after}
use Rattle.images.specs.Table.{AreParts}
use Rattle.images.specs.Views.{ViewValue, sectors_of}
use Rattle.images.specs.Whole.{length_view}
use Rattle.images.specs.Keys.{ChangedValue, base_of, content_at, changed_sectors, changed_below}
use Rattle.images.specs.Changes.{change_at, changes, with_sector, with_sectors, whole_image, image_of}
use Rattle.images.proofs.Entries.{unit_of_entry}
use Rattle.images.proofs.Rows.{all_units}
use Rattle.images.proofs.Shares.{lies_in}
use Rattle.images.proofs.Kept.{lost_departs}
use Rattle.images.proofs.Tears.{one_sector}
use Rattle.images.proofs.Sectors.{view_there, base_there}
use Rattle.images.proofs.Listed.{change_alike, changes_alike, changes_of_key, others_there, others_before, others_after, sectors_less}

pub filter_within : (p q : LogUnit → Bool) (us : List LogUnit) → All (λ u. p u ≡ q u) us → filter p us ≡ filter q us
filter_within p q [] same = refl
filter_within p q (u ∷ us) same =
    let here : p u ≡ q u = same 0 u (omega arith) in
    let rest : filter p us ≡ filter q us = filter_within p q us (λ i d lt. same (suc i) d (omega (arith, lt))) in
    ap (λ b. cond b (u ∷ filter p us) (filter p us)) here ∙ ap (λ xs. cond (q u) (u ∷ xs) xs) rest

-- a departure covers a sector of the device
pub record Covers (d : Departure) (n : ℕ) : Type 0 where
  pub low : d.part.sector ≤ n
  pub high : n < d.part.sector + d.part.count

alone : (u : LogUnit) (i : ℕ) → survives [] i u ≡ true
unfolding survives
alone u i = refl

-- a unit of a sector in which nothing departs
writes_alike : (log : LogValue) (ds : List Departure) (n i : ℕ) (u : LogUnit) → IsLog log → IsUnit log u → AreParts log ds
    → ((j : ℕ) (d : Departure) → slice_get ds j ≡ Some d → Covers d n → ⊥) → writes [] n i u ≡ writes ds n i u
unfolding writes
writes_alike log ds n i u bounds unit parts others =
    let none : survives [] i u ≡ true = alone u i in
    let by : (b : Bool) → survives ds i u ≡ b → ((u.sector == n) && survives [] i u) ≡ ((u.sector == n) && survives ds i u) =
    λ b. elim b as (λ c. survives ds i u ≡ c → ((u.sector == n) && survives [] i u) ≡ ((u.sector == n) && survives ds i u)) [
      | true ↦ λ e. ap (λ c. (u.sector == n) && c) (none ∙ sym e)
      | false ↦ λ e.
          let departs = lost_departs ds u i e in
          let d = departs.1 in
          let at = lies_in d.part u departs.3 in
          let low = at.low in
          let high = at.high in
          let place = one_sector log d.part u (parts departs.0 d departs.2) unit departs.3 in
          let other : (u.sector == n) ≡ false = ne_eqb u.sector n (λ here.
          others departs.0 d departs.2 (record { low = omega (arith, place, here); high = omega (arith, place, here, low, high) })) in
          ap (λ c. c && survives [] i u) other ∙ sym (ap (λ c. c && survives ds i u) other)
    ] in
    by (survives ds i u) refl

pub departed_elsewhere : (log : LogValue) (cut : ℕ) (ds : List Departure) (n : ℕ) → IsLog log → cut ≤ length log.entries → AreParts log ds
    → ((j : ℕ) (d : Departure) → slice_get ds j ≡ Some d → Covers d n → ⊥)
    → sector_after log (units_before log.entries cut) [] n ≡ sector_after log (units_before log.entries cut) ds n
unfolding sector_after byte_after
departed_elsewhere log cut ds n bounds le parts others =
    ap (λ (f : ℕ → ℕ). map f (range_with_len 0 512))
    (λ j i. ap (λ (vs : List LogUnit). option_map_or (λ (u : LogUnit). slice_index (unit_content log.entries u) i) (last_or None vs) (initial_byte log.initial n i))
    (filter_within (writes [] n i) (writes ds n i) (units_before log.entries cut)
    (all_units (λ u. writes [] n i u ≡ writes ds n i u) log.entries cut le
    (λ e x p lt there within. writes_alike log ds n i (unit_of e x p) bounds (unit_of_entry log e x p bounds there within) parts others))) j)

-- a departure of that sector, or none
abbrev Departs : List Departure → ℕ → ℕ → Type 0
Departs ds j n = (i : ℕ) × (d : Departure) × (j ≤ i) × (slice_get ds i ≡ Some d) × Covers d n

no_first : (c : Departure) (cs : List Departure) (m : ℕ) → (Covers c m → ⊥) → ((i : ℕ) (e : Departure) → slice_get cs i ≡ Some e → Covers e m → ⊥)
    → (i : ℕ) (e : Departure) → slice_get (c ∷ cs) i ≡ Some e → Covers e m → ⊥
no_first c cs m other none zero e there = λ is. let P : Departure → Type 0 = λ x. Covers x m in other (subst P (sym (same_Some c e there)) is)
no_first c cs m other none (suc i) e there = none i e there

-- whether it does
covers : (d : Departure) (n : ℕ) → Covers d n ⊎ (Covers d n → ⊥)
covers d n = elim (cases_lt n d.part.sector) [
  | inl before ↦ inr (λ is. let low = is.low in omega (arith, before, low))
  | inr low ↦ elim (cases_lt n (d.part.sector + d.part.count)) [
    | inl high ↦ inl (record { low = low; high = high })
    | inr past ↦ inr (λ is. let high = is.high in omega (arith, past, high))
  ]
]

finds : (ds : List Departure) (n : ℕ) → Departs ds 0 n ⊎ ((i : ℕ) (d : Departure) → slice_get ds i ≡ Some d → Covers d n → ⊥)
finds [] n = inr (λ i d there. absurd (let bad : None ≡ Some d = there in cc))
finds (d ∷ ds) n = elim (covers d n) [
  | inl own ↦ inl (0, d, omega arith, refl, own)
  | inr other ↦ elim (finds ds n) [
    | inl found ↦ inl (suc found.0, found.1, omega arith, found.3, found.4)
    | inr none ↦ inr (no_first d ds n other none)
  ]
]

-- a list of an image on the way to another, of which the first j departures are done
pub record Towards (base new : ℕ → List ℕ) (count : ℕ) (ds : List Departure) (j : ℕ) (sectors : List ChangedValue) : Type 0 where
  pub image : ℕ → List ℕ
  pub listed : sectors ≡ changes base image 0 count
  pub left : (n : ℕ) → n < count → (image n ≡ new n) ⊎ Departs ds j n

-- the list where nothing departs
pub begins : (view : ViewValue) (base : ℕ → List ℕ) (sectors : List ChangedValue) → IsLog view.log → view.cut ≤ length view.log.entries
    → AreParts view.log view.departures → sectors ≡ changes base (whole_image view.log view.cut) 0 view.log.sectors
    → Towards base (image_of view) view.log.sectors view.departures 0 sectors
begins view base sectors bounds le parts is = record {
  image = whole_image view.log view.cut;
  listed = is;
  left = λ n lt. elim (finds view.departures n) [
    | inl found ↦ inr found
    | inr none ↦ inl (departed_elsewhere view.log view.cut view.departures n bounds le parts none)
  ];
}

-- one departure more
pub goes_on : (base new : ℕ → List ℕ) (count : ℕ) (ds : List Departure) (j : ℕ) (sectors more : List ChangedValue) (d : Departure)
    → (was : Towards base new count ds j sectors) → slice_get ds j ≡ Some d
    → more ≡ changes base (with_sectors was.image d.part.sector d.part.count new) 0 count → Towards base new count ds (j + 1) more
goes_on base new count ds j sectors more d was there is =
    let a : ℕ = d.part.sector in
    let k : ℕ = d.part.count in
    let old : ℕ → List ℕ = was.image in
    let same_of : (n : ℕ) → (Covers d n → ⊥) → with_sectors old a k new n ≡ old n =
    λ n not_in. elim (cases_lt n a) [
      | inl before ↦ others_before old new a k n before
      | inr low ↦ elim (cases_lt n (a + k)) [
        | inl high ↦ absurd (not_in (record { low = low; high = high }))
        | inr past ↦ others_after old new a k n past
      ]
    ] in
    record {
      image = with_sectors old a k new;
      listed = is;
      left = λ n lt. elim (covers d n) [
        | inl own ↦ inl (others_there old new a k n own.low own.high)
        | inr other ↦ elim (was.left n lt) [
          | inl so ↦ inl (same_of n other ∙ so)
          | inr departs ↦ elim (cases_lt j departs.0) [
            | inl beyond ↦ inr (departs.0, departs.1, omega (arith, beyond), departs.3, departs.4)
            | inr past ↦
                let low = departs.2 in
                let here : departs.0 ≡ j = omega (arith, past, low) in
                let one : departs.1 ≡ d = same_Some departs.1 d (sym departs.3 ∙ ap (slice_get ds) here ∙ there) in
                let P : Departure → Type 0 = λ x. Covers x n in
                absurd (other (subst P one departs.4))
          ]
        ]
      ];
    }

-- all departures
pub ends : (base new : ℕ → List ℕ) (count : ℕ) (ds : List Departure) (j : ℕ) (sectors : List ChangedValue) → Towards base new count ds j sectors → length ds ≤ j
    → sectors ≡ changes base new 0 count
ends base new count ds j sectors so le =
    so.listed ∙ changes_alike base base so.image new 0 count (λ n low high. refl) (λ n low high. elim (so.left n (omega (arith, high))) [
      | inl same ↦ same
      | inr departs ↦
          let within = slice_get_within ds departs.0 departs.1 departs.3 in
          let low = departs.2 in
          absurd (omega (arith, within, low, le))
    ])

drop_at_place : (ds : List Departure) (j : ℕ) (d : Departure) → slice_get ds j ≡ Some d → drop j ds ≡ d ∷ drop (suc j) ds
drop_at_place [] j d there = absurd (let bad : None ≡ Some d = there in cc)
drop_at_place (x ∷ xs) zero d there = ap (λ (y : Departure). y ∷ xs) (same_Some x d there)
drop_at_place (x ∷ xs) (suc j) d there = drop_at_place xs j d there

-- each departure takes away as many listed sectors as its part has, at most
pub few_left : (base new : ℕ → List ℕ) (count : ℕ) (ds : List Departure) (k j : ℕ) (sectors : List ChangedValue)
    → ((i : ℕ) (d : Departure) → slice_get ds i ≡ Some d → d.part.sector + d.part.count ≤ count) → Towards base new count ds j sectors → length ds ≡ j + k
    → length sectors ≤ length (changes base new 0 count) + sum_by (λ (d : Departure). d.part.count) (drop j ds)
few_left base new count ds zero j sectors within so is =
    let all = ap length (ends base new count ds j sectors so (omega (arith, is))) in
    omega (arith, all)
few_left base new count ds (suc k) j sectors within so is = elim (slice_get_cases ds j).1 [
  | inl a ↦
      let d : Departure = a.0 in
      let first : ℕ = d.part.sector in
      let n : ℕ = d.part.count in
      let more : List ChangedValue = changes base (with_sectors so.image first n new) 0 count in
      let next = few_left base new count ds k (j + 1) more within (goes_on base new count ds j sectors more d so a.2 refl) (omega (arith, is)) in
      let less = sectors_less base so.image new count first n (within j d a.2) in
      let here = ap length so.listed in
      let rest : drop j ds ≡ d ∷ drop (j + 1) ds = drop_at_place ds j d a.2 ∙ ap (λ m. d ∷ drop m ds) (sym (add-one j)) in
      let sum = ap (sum_by (λ (e : Departure). e.part.count)) rest ∙ sum_by-cons (λ (e : Departure). e.part.count) d (drop (j + 1) ds) in
      omega (arith, next, less, here, sum)
  | inr past ↦ let none = past.0 in absurd (omega (arith, none, is))
]

-- a sector as it is to be listed anew
pub own_content : (image : ℕ → List ℕ) (n : ℕ) (content : List ℕ) → with_sector image n content n ≡ content
own_content image n content = ap (λ b. if b then content else image n) (eq-eqb n n refl)

pub change_here : (base new image : ℕ → List ℕ) (n : ℕ) → change_at base new n ≡ change_at base (with_sector image n (new n)) n
change_here base new image n = change_alike base base new (with_sector image n (new n)) n refl (sym (own_content image n (new n)))

-- the list of a key
pub list_of_key : (view : ViewValue) (flush : ℕ) → flush ≡ last_flush view.log.entries view.cut
    → changes (whole_image view.log flush) (image_of view) 0 view.log.sectors ≡ changed_sectors (base_of view.log view.cut) (sectors_of view)
unfolding changed_below
list_of_key view flush is =
    let base = base_of view.log view.cut in
    let image = sectors_of view in
    let size : view.log.sectors ≡ length image = sym (length_view view) in
    changes_alike (whole_image view.log flush) (content_at base) (image_of view) (content_at image) 0 view.log.sectors
    (λ n low high. ap (λ f. whole_image view.log f n) is ∙ sym (get_or_from_slice_get base n _ [] (base_there view.log view.cut n (omega (arith, high)))))
    (λ n low high. sym (get_or_from_slice_get image n _ [] (view_there view n (omega (arith, high)))))
    ∙ ap (changes (content_at base) (content_at image) 0) size
    ∙ changes_of_key base image 0 (length image)

-- how many sectors the parts of departures have, with one more
pub one_count_more : (ds : List Departure) (j : ℕ) (d : Departure) (sum : ℕ) → slice_get ds j ≡ Some d
    → sum ≡ sum_by (λ (e : Departure). e.part.count) (take j ds) → sum + d.part.count ≡ sum_by (λ (e : Departure). e.part.count) (take (j + 1) ds)
one_count_more ds j d sum there is =
    let more = sum_by_more (λ (e : Departure). e.part.count) ds j d (slice_get_within ds j d there) in
    let one : (get_or ds j d).part.count ≡ d.part.count = ap (λ (e : Departure). e.part.count) (get_or_from_slice_get ds j d d there) in
    omega (arith, more, one, is)

-- the parts of departures have the sectors of parts of a device
pub few_sectors : (ds : List Departure) (most : ℕ) → ((i : ℕ) (d : Departure) → slice_get ds i ≡ Some d → d.part.count ≤ most)
    → sum_by (λ (e : Departure). e.part.count) ds ≤ length ds * most
few_sectors [] most each = omega arith
few_sectors (d ∷ ds) most each =
    let first = each 0 d refl in
    let rest = few_sectors ds most (λ i e there. each (suc i) e there) in
    let sum = sum_by-cons (λ (e : Departure). e.part.count) d ds in
    omega (arith, first, rest, sum)
