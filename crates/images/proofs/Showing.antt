-- The unit that shows in a sector, and what it leaves there.
use Rattle.std.proofs.Common.{ℕ, suc, ◌≡◌, ◌+◌, ◌-◌, ◌<◌, ◌≤◌, ◌==◌, Bool, true, false, ◌&&◌, cond, if◌then◌else◌, List, [], ◌∷◌, ◌++◌, length, filter, take, slice_get, slice_index_or, Option, Some, None, refl, sym, subst, ◌∙◌, ap, inl, inr, arith, append_assoc}
use Rattle.std.specs.List.{last_or, slice_index}
use Rattle.std.proofs.lemmas.Bool.Decides.{eqb_tells}
use Rattle.std.proofs.lemmas.Grind.{same_number_lists}
use Rattle.std.proofs.lemmas.List.{append-nil}
use Rattle.std.proofs.lemmas.List.Elements.{filter-append}
use Rattle.std.proofs.lemmas.List.FromFn.{length-map-range_with_len, get_or-map-range_with_len}
use Rattle.std.proofs.lemmas.Option.{slice_get_within, slice_get-get_or, same_Some}
use Rattle.base.proofs.Lists.{slice_get-append_left, slice_get-push, take-suc_place}
use Rattle.logfmt.specs.Bounds.{LogValue}
use Rattle.logfmt.specs.Initial.{initial_byte}
use Rattle.epochs.specs.declared.unit.Unit.{Unit as LogUnit}
use Rattle.epochs.specs.Units.{unit_content}
use Rattle.choices.specs.declared.choice.Departure.{Departure}
use Rattle.images.specs.Images.{survives, writes, byte_after, sector_after}
use Rattle.images.specs.Table.{covering, fate_at, leaves, reaches, showing}
use Rattle.images.proofs.Kept.{whole_survives, dropped_lost}
use Rattle.images.proofs.Writers.{last_or-push, byte_after_written, byte_after_lost}
use Rattle.images.proofs.Rows.{covering-push}

-- a law of lists that stays with one element more
onto : {X : Type 0} (P : List X → Type 0) → ((xs : List X) (x : X) → P xs → P (xs ++ x ∷ [])) → (xs ys : List X) → P xs → P (xs ++ ys)
onto P step xs [] p = subst P (sym (append-nil xs)) p
onto P step xs (y ∷ ys) p = subst P (append_assoc xs (y ∷ []) ys) (onto P step (xs ++ y ∷ []) ys (step xs y p))

last_of : (us : List LogUnit) (u : LogUnit) (b : Bool) → last_or None (us ++ cond b (u ∷ []) []) ≡ (if b then Some u else last_or None us)
last_of us u true = last_or-push None us u
last_of us u false = ap (last_or None) (append-nil us)

-- one unit more
showing-push : (ds : List Departure) (us : List LogUnit) (u : LogUnit) → showing ds (us ++ u ∷ []) ≡ (if reaches ds u then Some u else showing ds us)
unfolding showing
showing-push ds us u =
    ap (last_or None) (filter-append (reaches ds) us (u ∷ [])) ∙ last_of (filter (reaches ds) us) u (reaches ds u)

-- one unit more: it shows where something of it reaches the device, else what showed before
pub showing_own : (ds : List Departure) (us : List LogUnit) (u : LogUnit) → reaches ds u ≡ true → showing ds (us ++ u ∷ []) ≡ Some u
showing_own ds us u kept = showing-push ds us u ∙ ap (λ b. if b then Some u else showing ds us) kept

pub showing_other : (ds : List Departure) (us : List LogUnit) (u : LogUnit) → reaches ds u ≡ false → showing ds (us ++ u ∷ []) ≡ showing ds us
showing_other ds us u lost = showing-push ds us u ∙ ap (λ b. if b then Some u else showing ds us) lost

-- something of the unit that shows reaches the device
last_holds : (p : LogUnit → Bool) (us : List LogUnit) (o : Option LogUnit) (u : LogUnit) → ((v : LogUnit) → o ≡ Some v → p v ≡ true)
    → last_or o (filter p us) ≡ Some u → p u ≡ true
last_holds p [] o u first at = first u at
last_holds p (v ∷ us) o u first at =
    let by : (b : Bool) → p v ≡ b → last_or o (cond b (v ∷ filter p us) (filter p us)) ≡ Some u → p u ≡ true =
    λ b. elim b as (λ c. p v ≡ c → last_or o (cond c (v ∷ filter p us) (filter p us)) ≡ Some u → p u ≡ true) [
      | true ↦ λ e h. last_holds p us (Some v) u (λ w same. ap p (sym (same_Some v w same)) ∙ e) h
      | false ↦ λ e h. last_holds p us o u first h
    ] in
    by (p v) refl at

pub showing_reaches : (ds : List Departure) (us : List LogUnit) (u : LogUnit) → showing ds us ≡ Some u → leaves (fate_at ds u) ≡ true
unfolding showing reaches
showing_reaches ds us u at = last_holds (reaches ds) us None u (λ v none. absurd (let bad : None ≡ Some v = none in cc)) at

-- a row from its end
pub step_back : (row : List LogUnit) (left : ℕ) (d : LogUnit) → 0 < left → left ≤ length row
    → take left row ≡ take (left - 1) row ++ slice_index_or row (left - 1) d ∷ []
step_back row left d some le =
    let back : left ≡ suc (left - 1) = omega (arith, some) in
    ap (λ n. take n row) back ∙ take-suc_place row (left - 1) (slice_index_or row (left - 1) d) (slice_get-get_or row (left - 1) d (omega (arith, some, le)))

-- the search from the last unit back: it shows, it shows not, or none is left
pub found : (ds : List Departure) (row : List LogUnit) (left : ℕ) (d : LogUnit) → 0 < left → left ≤ length row → showing ds (take left row) ≡ showing ds row
    → reaches ds (slice_index_or row (left - 1) d) ≡ true → Some (slice_index_or row (left - 1) d) ≡ showing ds row
found ds row left d some le was kept =
    sym (showing_own ds (take (left - 1) row) (slice_index_or row (left - 1) d) kept)
    ∙ ap (showing ds) (sym (step_back row left d some le)) ∙ was

pub passed : (ds : List Departure) (row : List LogUnit) (left : ℕ) (d : LogUnit) → 0 < left → left ≤ length row → showing ds (take left row) ≡ showing ds row
    → reaches ds (slice_index_or row (left - 1) d) ≡ false → showing ds (take (left - 1) row) ≡ showing ds row
passed ds row left d some le was lost =
    sym (showing_other ds (take (left - 1) row) (slice_index_or row (left - 1) d) lost)
    ∙ ap (showing ds) (sym (step_back row left d some le)) ∙ was

nobody_shows : (ds : List Departure) → None ≡ showing ds []
unfolding showing
nobody_shows ds = refl

pub none_left : (ds : List Departure) (row : List LogUnit) (left : ℕ) → left ≤ 0 → showing ds (take left row) ≡ showing ds row → None ≡ showing ds row
none_left ds row left none was =
    let end : left ≡ 0 = omega (arith, none) in
    nobody_shows ds ∙ sym (ap (λ n. showing ds (take n row)) end) ∙ was

-- what the unit that shows leaves, of the units of a list that cover sector s
pub record Shows (log : LogValue) (ds : List Departure) (s : ℕ) (vs : List LogUnit) : Type 0 where
  pub nobody : showing ds (covering s vs) ≡ None → (i : ℕ) → i < 512 → byte_after log vs ds s i ≡ initial_byte log.initial s i
  pub whole : (u : LogUnit) → showing ds (covering s vs) ≡ Some u → fate_at ds u ≡ None → (i : ℕ) → i < 512 → byte_after log vs ds s i ≡ slice_index (unit_content log.entries u) i
  pub there : (u : LogUnit) → showing ds (covering s vs) ≡ Some u → (j : ℕ) × (slice_get vs j ≡ Some u) × (u.sector ≡ s)

lost : (log : LogValue) (ds : List Departure) (s : ℕ) (vs : List LogUnit) (v : LogUnit)
    → showing ds (covering s (vs ++ v ∷ [])) ≡ showing ds (covering s vs) → ((i : ℕ) → i < 512 → writes ds s i v ≡ false)
    → Shows log ds s vs → Shows log ds s (vs ++ v ∷ [])
lost log ds s vs v same off was = record {
  nobody = λ none i lt. byte_after_lost log vs v ds s i (off i lt) ∙ was.nobody (sym same ∙ none) i lt;
  whole = λ u at full i lt. byte_after_lost log vs v ds s i (off i lt) ∙ was.whole u (sym same ∙ at) full i lt;
  there = λ u at.
      let old = was.there u (sym same ∙ at) in
      (old.0, slice_get-append_left vs (v ∷ []) old.0 (slice_get_within vs old.0 u old.1) ∙ old.1, old.2);
}

own : (log : LogValue) (ds : List Departure) (s : ℕ) (vs : List LogUnit) (v : LogUnit) → v.sector ≡ s
    → showing ds (covering s (vs ++ v ∷ [])) ≡ Some v → ((i : ℕ) → writes ds s i v ≡ survives ds i v) → Shows log ds s (vs ++ v ∷ [])
own log ds s vs v here shows on = record {
  nobody = λ none i lt. absurd (let bad : None ≡ Some v = sym none ∙ shows in cc);
  whole = λ u at full i lt.
      let same : v ≡ u = same_Some v u (sym shows ∙ at) in
      let kept : survives ds i v ≡ true = whole_survives ds v i lt (ap (fate_at ds) same ∙ full) in
      byte_after_written log vs v ds s i (on i ∙ kept) ∙ ap (λ x. slice_index (unit_content log.entries x) i) same;
  there = λ u at.
      let same : v ≡ u = same_Some v u (sym shows ∙ at) in
      (length vs, slice_get-push vs v ∙ ap (λ x. Some x) same, ap (λ (x : LogUnit). x.sector) (sym same) ∙ here);
}

-- whether a unit writes, where its sector is another and where it is its own
writes_other : (ds : List Departure) (s i : ℕ) (v : LogUnit) → (v.sector == s) ≡ false → writes ds s i v ≡ false
unfolding writes
writes_other ds s i v other = ap (λ b. b && survives ds i v) other

writes_own : (ds : List Departure) (s i : ℕ) (v : LogUnit) → (v.sector == s) ≡ true → writes ds s i v ≡ survives ds i v
unfolding writes
writes_own ds s i v here = ap (λ b. b && survives ds i v) here

one_more : (log : LogValue) (ds : List Departure) (s : ℕ) (vs : List LogUnit) (v : LogUnit) → Shows log ds s vs → Shows log ds s (vs ++ v ∷ [])
one_more log ds s vs v was = elim (eqb_tells v.sector s) [
  | inl here ↦
      let row : covering s (vs ++ v ∷ []) ≡ covering s vs ++ v ∷ [] = covering-push s vs v ∙ ap (λ b. covering s vs ++ cond b (v ∷ []) []) here.0 in
      let by : (b : Bool) → reaches ds v ≡ b → Shows log ds s (vs ++ v ∷ []) =
      λ b. elim b as (λ c. reaches ds v ≡ c → Shows log ds s (vs ++ v ∷ [])) [
        | true ↦ λ e. own log ds s vs v here.1 (ap (showing ds) row ∙ showing_own ds (covering s vs) v e) (λ i. writes_own ds s i v here.0)
        | false ↦ λ e.
            lost log ds s vs v (ap (showing ds) row ∙ showing_other ds (covering s vs) v e)
            (λ i lt. writes_own ds s i v here.0 ∙ dropped_lost ds v i lt e) was
      ] in
      by (reaches ds v) refl
  | inr other ↦
      let row : covering s (vs ++ v ∷ []) ≡ covering s vs =
      covering-push s vs v ∙ ap (λ b. covering s vs ++ cond b (v ∷ []) []) other.0 ∙ append-nil (covering s vs) in
      lost log ds s vs v (ap (showing ds) row) (λ i lt. writes_other ds s i v other.0) was
]

no_unit : (log : LogValue) (ds : List Departure) (s : ℕ) → Shows log ds s []
unfolding showing covering byte_after
no_unit log ds s = record {
  nobody = λ none i lt. refl;
  whole = λ u at full i lt. absurd (let bad : None ≡ Some u = at in cc);
  there = λ u at. absurd (let bad : None ≡ Some u = at in cc);
}

-- this holds of each list of units
pub shows : (log : LogValue) (ds : List Departure) (s : ℕ) (vs : List LogUnit) → Shows log ds s vs
shows log ds s vs = onto (λ us. Shows log ds s us) (one_more log ds s) [] vs (no_unit log ds s)

-- sectors by their bytes
pub sector_by_bytes : (log : LogValue) (us : List LogUnit) (ds : List Departure) (s : ℕ) (bytes : List ℕ) → length bytes ≡ 512
    → ((i : ℕ) → i < 512 → byte_after log us ds s i ≡ slice_index bytes i) → bytes ≡ sector_after log us ds s
unfolding sector_after
sector_by_bytes log us ds s bytes long each =
    let byte : ℕ → ℕ = byte_after log us ds s in
    same_number_lists _ _ (long ∙ sym (length-map-range_with_len byte 0 512)) (λ i lt.
    let within : i < 512 = omega (arith, lt, long) in
    let here : 0 + i ≡ i = omega arith in
    sym (each i within) ∙ sym (get_or-map-range_with_len byte 0 512 i i 0 within here))
