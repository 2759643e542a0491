-- The volatile parts of a cut, as a set in its order.
use Rattle.std.proofs.Common.{ℕ, zero, suc, ◌≡◌, ◌+◌, ◌-◌, ◌*◌, ◌<◌, ◌≤◌, Bool, true, false, if◌then◌else◌, List, [], ◌++◌, length, slice_get, Some, None, refl, sym, subst, ◌∙◌, ap, inl, inr, arith}
use Rattle.std.proofs.lemmas.Bool.{cases_lt}
use Rattle.std.proofs.lemmas.List.FromFn.{length-map-range_with_len}
use Rattle.std.proofs.lemmas.Option.{slice_get_within, slice_get_cases, same_Some}
use Rattle.base.proofs.Lists.{slice_get-append_left, slice_get-append_right, slice_get_of_append}
use Rattle.logfmt.specs.declared.entry.Entry.{Entry}
use Rattle.epochs.specs.declared.part.Part.{Part}
use Rattle.epochs.specs.declared.part.By.{By}
use Rattle.epochs.specs.Parts.{part_size, part_count, part_of, parts_of_entry, volatile_parts}
use Rattle.epochs.proofs.Parts.{part_some, part_inside, part_found, parts_rise}
use Rattle.epochs.specs.Laws.{IsVolatile, Precedes, ListsVolatile, VolatileIsSet}
use Rattle.epochs.proofs.Growth.{own_parts, volatile_parts-next}
use Rattle.epochs.proofs.Search.{part_there}

-- an element of the parts that an entry adds
in_own : (way : By) (k : ℕ) (x : Entry) (j : ℕ) (u : Part) → slice_get (own_parts way k x) j ≡ Some u
    → (x.flags.fua ≡ false) × (j < part_count way x) × (u ≡ part_of way k x j)
in_own way k x j u h =
    let long : length (parts_of_entry way k x) ≡ part_count way x = length-map-range_with_len (part_of way k x) 0 (part_count way x) in
    let by_flag : (b : Bool) → x.flags.fua ≡ b → slice_get (if b then [] else parts_of_entry way k x) j ≡ Some u
    → (x.flags.fua ≡ false) × (j < part_count way x) × (u ≡ part_of way k x j) =
    λ b. elim b as (λ v. x.flags.fua ≡ v → slice_get (if v then [] else parts_of_entry way k x) j ≡ Some u → (x.flags.fua ≡ false) × (j < part_count way x) × (u ≡ part_of way k x j)) [
      | true ↦ λ _ at. absurd (let bad : None ≡ Some u = at in cc)
      | false ↦ λ e at.
          let lt : j < part_count way x = omega (arith, slice_get_within (parts_of_entry way k x) j u at, long) in
          (e, lt, same_Some u (part_of way k x j) (sym at ∙ part_there way k x j lt))
    ] in
    by_flag x.flags.fua refl h

-- an element of what a flush leaves
in_kept : (flush : Bool) (us : List Part) (i : ℕ) (u : Part) → slice_get (if flush then [] else us) i ≡ Some u
    → (flush ≡ false) × (slice_get us i ≡ Some u)
in_kept true us i u h = absurd (let bad : None ≡ Some u = h in cc)
in_kept false us i u h = (refl, h)

-- one entry more: what is volatile stays so, unless the entry is a flush entry
stays : (way : By) (es : List Entry) (k : ℕ) (x : Entry) (u : Part) → slice_get es k ≡ Some x → x.flags.flush ≡ false → IsVolatile way es k u
    → IsVolatile way es (suc k) u
stays way es k x u here calm is = record {
  entry = is.entry;
  there = is.there;
  count = is.count;
  some = is.some;
  inside = is.inside;
  sector = is.sector;
  before = omega (arith, is.before);
  forced = is.forced;
  flushed = λ f flush low high at. elim (cases_lt f k) [
    | inl less ↦ is.flushed f flush low less at
    | inr more ↦
        let same : f ≡ k = omega (arith, more, high) in
        let one : flush ≡ x = same_Some flush x (sym at ∙ ap (slice_get es) same ∙ here) in
        ap (λ (e : Entry). e.flags.flush) one ∙ calm
  ];
}

-- the parts of the last entry before the cut
newest : (way : By) (es : List Entry) (k : ℕ) (x : Entry) (j : ℕ) → slice_get es k ≡ Some x → x.flags.fua ≡ false → j < part_count way x
    → IsVolatile way es (suc k) (part_of way k x j)
newest way es k x j here free lt = record {
  entry = x;
  there = here;
  count = refl;
  some = part_some way x j lt;
  inside = part_inside way x j lt;
  sector = refl;
  before = omega arith;
  forced = free;
  flushed = λ f flush low high at. absurd (omega (arith, low, high));
}

sound_next : (way : By) (es : List Entry) (k : ℕ) (x : Entry) → slice_get es k ≡ Some x → ListsVolatile way es k (volatile_parts way es k)
    → (i : ℕ) (u : Part) → slice_get (volatile_parts way es (suc k)) i ≡ Some u → IsVolatile way es (suc k) u
sound_next way es k x here so i u h =
    let first : List Part = if x.flags.flush then [] else volatile_parts way es k in
    let at : slice_get (first ++ own_parts way k x) i ≡ Some u = ap (λ us. slice_get us i) (sym (volatile_parts-next way es k x here)) ∙ h in
    elim (slice_get_of_append first (own_parts way k x) i u at) [
      | inl a ↦
          let kept = in_kept x.flags.flush (volatile_parts way es k) i u a.1 in
          stays way es k x u here kept.0 (so.sound i u kept.1)
      | inr b ↦
          let own = in_own way k x (i - length first) u b.1 in
          let P : Part → Type 0 = λ v. IsVolatile way es (suc k) v in
          subst P (sym own.2) (newest way es k x (i - length first) here own.0 own.1)
    ]

-- with no flush the parts stay where they are
old_place : (way : By) (es : List Entry) (k : ℕ) (x : Entry) (i : ℕ) (u : Part) → slice_get es k ≡ Some x → x.flags.flush ≡ false
    → slice_get (volatile_parts way es k) i ≡ Some u → slice_get (volatile_parts way es (suc k)) i ≡ Some u
old_place way es k x i u here calm h =
    let first : List Part = if x.flags.flush then [] else volatile_parts way es k in
    let kept : slice_get first i ≡ Some u = ap (λ b. slice_get (if b then [] else volatile_parts way es k) i) calm ∙ h in
    ap (λ us. slice_get us i) (volatile_parts-next way es k x here)
    ∙ slice_get-append_left first (own_parts way k x) i (slice_get_within first i u kept) ∙ kept

new_place : (way : By) (es : List Entry) (k : ℕ) (x : Entry) (j : ℕ) → slice_get es k ≡ Some x → x.flags.fua ≡ false → j < part_count way x
    → (i : ℕ) × (slice_get (volatile_parts way es (suc k)) i ≡ Some (part_of way k x j))
new_place way es k x j here free lt =
    let first : List Part = if x.flags.flush then [] else volatile_parts way es k in
    let own : slice_get (own_parts way k x) j ≡ Some (part_of way k x j) =
    ap (λ b. slice_get (if b then [] else parts_of_entry way k x) j) free ∙ part_there way k x j lt in (
      length first + j,
      ap (λ us. slice_get us (length first + j)) (volatile_parts-next way es k x here) ∙ slice_get-append_right first (own_parts way k x) j ∙ own,
    )

same_place : (us : List Part) (v u : Part) → ((i : ℕ) × (slice_get us i ≡ Some v)) → v ≡ u → (i : ℕ) × (slice_get us i ≡ Some u)
same_place us v u at same = (at.0, at.1 ∙ ap (λ w. Some w) same)

complete_next : (way : By) (es : List Entry) (k : ℕ) (x : Entry) → slice_get es k ≡ Some x → ListsVolatile way es k (volatile_parts way es k)
    → (u : Part) → IsVolatile way es (suc k) u → (i : ℕ) × (slice_get (volatile_parts way es (suc k)) i ≡ Some u)
complete_next way es k x here so u is =
    elim (cases_lt u.entry k) [
      | inl less ↦
          let calm = is.flushed k x less (omega arith) here in
          let old : IsVolatile way es k u = record {
            entry = is.entry;
            there = is.there;
            count = is.count;
            some = is.some;
            inside = is.inside;
            sector = is.sector;
            before = less;
            forced = is.forced;
            flushed = λ f flush low high at. is.flushed f flush low (omega (arith, high)) at;
          } in
          let was = so.complete u old in
          (was.0, old_place way es k x was.0 u here calm was.1)
      | inr more ↦
          let same : u.entry ≡ k = omega (arith, more, is.before) in
          let one : is.entry ≡ x = same_Some is.entry x (sym is.there ∙ ap (slice_get es) same ∙ here) in
          let flag : x.flags.fua ≡ is.entry.flags.fua = ap (λ (e : Entry). e.flags.fua) (sym one) in
          let free : x.flags.fua ≡ false = flag ∙ is.forced in
          let size : u.count ≡ part_size way x = is.count ∙ ap (part_size way) one in
          let within : u.place + u.count ≤ x.count = let P : Entry → Type 0 = λ e. u.place + u.count ≤ e.count in subst P one is.inside in
          let at = part_found way x u.place u.count size is.some within in
          let sector : x.sector + at.0 * part_size way x ≡ u.sector =
          ap (λ n. x.sector + n) at.2 ∙ sym (is.sector ∙ ap (λ (e : Entry). e.sector + u.place) one) in
          let whole : part_of way k x at.0 ≡ u = λ i. record { entry = (sym same) i; place = at.2 i; count = (sym size) i; sector = sector i } in
          same_place (volatile_parts way es (suc k)) (part_of way k x at.0) u (new_place way es k x at.0 here free at.1) whole
    ]

rising_next : (way : By) (es : List Entry) (k : ℕ) (x : Entry) → slice_get es k ≡ Some x → ListsVolatile way es k (volatile_parts way es k)
    → (i j : ℕ) (a b : Part) → i < j → slice_get (volatile_parts way es (suc k)) i ≡ Some a → slice_get (volatile_parts way es (suc k)) j ≡ Some b
    → Precedes a b
rising_next way es k x here so i j a b less ha hb =
    let first : List Part = if x.flags.flush then [] else volatile_parts way es k in
    let next = volatile_parts-next way es k x here in
    let at_a : slice_get (first ++ own_parts way k x) i ≡ Some a = ap (λ us. slice_get us i) (sym next) ∙ ha in
    let at_b : slice_get (first ++ own_parts way k x) j ≡ Some b = ap (λ us. slice_get us j) (sym next) ∙ hb in
    elim (slice_get_of_append first (own_parts way k x) j b at_b) [
      | inl old_b ↦
          let kept_b = in_kept x.flags.flush (volatile_parts way es k) j b old_b.1 in
          let in_a : slice_get first i ≡ Some a =
          sym (slice_get-append_left first (own_parts way k x) i (omega (arith, less, old_b.0))) ∙ at_a in
          let kept_a = in_kept x.flags.flush (volatile_parts way es k) i a in_a in
          so.rising i j a b less kept_a.1 kept_b.1
      | inr new_b ↦
          let own_b = in_own way k x (j - length first) b new_b.1 in
          let entry_b : b.entry ≡ k = ap (λ (v : Part). v.entry) own_b.2 in
          let place_b : b.place ≡ (j - length first) * part_size way x = ap (λ (v : Part). v.place) own_b.2 in
          elim (slice_get_of_append first (own_parts way k x) i a at_a) [
            | inl old_a ↦
                let kept_a = in_kept x.flags.flush (volatile_parts way es k) i a old_a.1 in
                let was = so.sound i a kept_a.1 in
                inl (omega (arith, was.before, entry_b))
            | inr new_a ↦
                let own_a = in_own way k x (i - length first) a new_a.1 in
                let entry_a : a.entry ≡ k = ap (λ (v : Part). v.entry) own_a.2 in
                let place_a : a.place ≡ (i - length first) * part_size way x = ap (λ (v : Part). v.place) own_a.2 in
                let rise = parts_rise way x (i - length first) (j - length first) (omega (arith, less, new_a.0)) own_b.1 in
                inr (entry_a ∙ sym entry_b, omega (arith, place_a, place_b, rise))
          ]
    ]

no_parts : (way : By) (es : List Entry) → volatile_parts way es 0 ≡ []
unfolding volatile_parts
no_parts way es = refl

first_set : (way : By) (es : List Entry) (us : List Part) → us ≡ [] → ListsVolatile way es 0 us
first_set way es us none =
    let empty : ListsVolatile way es 0 [] = record {
      sound = λ i u h. absurd (let bad : None ≡ Some u = h in cc);
      complete = λ u is. absurd (omega (arith, is.before));
      rising = λ i j a b less ha hb. absurd (let bad : None ≡ Some a = ha in cc);
    } in
    let P : List Part → Type 0 = λ vs. ListsVolatile way es 0 vs in
    subst P (sym none) empty

pub volatile_is_set : VolatileIsSet
volatile_is_set way es zero h = first_set way es (volatile_parts way es 0) (no_parts way es)
volatile_is_set way es (suc k) h =
    let so = volatile_is_set way es k (omega (arith, h)) in
    elim (slice_get_cases es k).1 [
      | inl a ↦ record { sound = sound_next way es k a.0 a.2 so; complete = complete_next way es k a.0 a.2 so; rising = rising_next way es k a.0 a.2 so }
      | inr past ↦ absurd (omega (arith, past.0, h))
    ]
