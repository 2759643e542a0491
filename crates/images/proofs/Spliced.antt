-- What units that cover one sector leave on it: the last of them over what the others leave.
use Rattle.std.proofs.Common.{ℕ, zero, suc, ◌≡◌, ◌+◌, ◌<◌, ◌≤◌, ◌==◌, Bool, true, false, if◌then◌else◌, cond, List, [], ◌∷◌, ◌++◌, length, map, filter, take, slice_get, Some, None, refl, sym, subst, ◌∙◌, ap, arith}
use Rattle.std.specs.List.{last_or, slice_index, range_with_len}
use Rattle.std.specs.Option.{option_map_or, is_some}
use Rattle.std.proofs.lemmas.List.{take_all}
use Rattle.std.proofs.lemmas.List.FromFn.{length-map-range_with_len, get_or-map-range_with_len}
use Rattle.std.proofs.lemmas.Option.{get_or_from_slice_get, slice_get_within}
use Rattle.base.proofs.Lists.{take-suc_place}
use Rattle.logfmt.specs.Bounds.{LogValue, IsLog}
use Rattle.logfmt.specs.Initial.{initial_byte, initial_sector}
use Rattle.epochs.specs.declared.unit.Unit.{Unit as LogUnit}
use Rattle.epochs.specs.Units.{units_before, unit_content}
use Rattle.epochs.specs.Plan.{IsUnit}
use Rattle.choices.specs.declared.fate.Fate.{Fate}
use Rattle.choices.specs.declared.choice.Departure.{Departure}
use Rattle.images.specs.Images.{keeps, writes, byte_after, sector_after}
use Rattle.images.specs.Table.{covering, versions, DepartOnce, fate_at, showing, is_torn}
use Rattle.images.proofs.Blank.{first_sector}
use Rattle.images.proofs.Fates.{fated_survives}
use Rattle.images.proofs.Kept.{whole_survives}
use Rattle.images.proofs.Laying.{sector_laid}
use Rattle.images.proofs.Rows.{units_of_log}
use Rattle.images.proofs.Showing.{shows, sector_by_bytes}

-- a list in two parts, the last element and those before it
in_front : (row : List LogUnit) (last : ℕ) (u : LogUnit) → suc last ≡ length row → slice_get row last ≡ Some u → take last row ++ u ∷ [] ≡ row
in_front row last u long there = sym (take-suc_place row last u there) ∙ take_all (suc last) row (omega (arith, long))

-- the last unit has a fate: what it keeps stands over what the units before it leave
pub spliced : (log : LogValue) (row : List LogUnit) (ds : List Departure) (s last : ℕ) (u : LogUnit) (f : Fate) (new old made : List ℕ)
    → suc last ≡ length row → slice_get row last ≡ Some u → u.sector ≡ s → DepartOnce ds → fate_at ds u ≡ Some f
    → new ≡ unit_content log.entries u → old ≡ sector_after log (take last row) ds s → length made ≡ 512
    → ((i : ℕ) → i < 512 → slice_index made i ≡ (if keeps f 1 i then slice_index new i else slice_index old i))
    → made ≡ sector_after log row ds s
spliced log row ds s last u f new old made long there here once at content below size bytes =
    sector_laid log (take last row) u ds new old made (keeps f 1) content (below ∙ ap (sector_after log (take last row) ds) (sym here)) size
    (λ i lt. fated_survives ds u i f lt once at) bytes
    ∙ ap (sector_after log (take last row ++ u ∷ []) ds) here ∙ ap (λ us. sector_after log us ds s) (in_front row last u long there)

-- the last unit is whole: its content stands
pub whole_last : (log : LogValue) (row : List LogUnit) (ds : List Departure) (s last : ℕ) (u : LogUnit) (new : List ℕ)
    → suc last ≡ length row → slice_get row last ≡ Some u → u.sector ≡ s → fate_at ds u ≡ None
    → new ≡ unit_content log.entries u → length new ≡ 512
    → new ≡ sector_after log row ds s
whole_last log row ds s last u new long there here whole content size =
    sector_laid log (take last row) u ds new (sector_after log (take last row) ds u.sector) new (λ i. true) content refl size
    (λ i lt. whole_survives ds u i lt whole) (λ i lt. refl)
    ∙ ap (sector_after log (take last row ++ u ∷ []) ds) here ∙ ap (λ us. sector_after log us ds s) (in_front row last u long there)

-- no unit covers the sector: the initial content stands
pub nothing : (log : LogValue) (row : List LogUnit) (ds : List Departure) (s : ℕ) → length row ≡ 0 → initial_sector log.initial s ≡ sector_after log row ds s
nothing log [] ds s none = sym (first_sector log ds s)
nothing log (u ∷ us) ds s none = absurd (omega (arith, none))

-- an element of a prefix is one of the list
pub in_take : (n : ℕ) (us : List LogUnit) (i : ℕ) (u : LogUnit) → slice_get (take n us) i ≡ Some u → slice_get us i ≡ Some u
in_take zero us i u h = absurd (let bad : None ≡ Some u = h in cc)
in_take (suc n) [] i u h = absurd (let bad : None ≡ Some u = h in cc)
in_take (suc n) (v ∷ vs) zero u h = h
in_take (suc n) (v ∷ vs) (suc i) u h = in_take n vs i u h

-- units of other sectors leave nothing on a sector
narrowed : (w p : LogUnit → Bool) → ((v : LogUnit) → p v ≡ false → w v ≡ false) → (us : List LogUnit) → filter w (filter p us) ≡ filter w us
narrowed w p off [] = refl
narrowed w p off (v ∷ vs) =
    let rest = narrowed w p off vs in
    let by : (b : Bool) → p v ≡ b → filter w (cond b (v ∷ filter p vs) (filter p vs)) ≡ cond (w v) (v ∷ filter w vs) (filter w vs) =
    λ b. elim b as (λ c. p v ≡ c → filter w (cond c (v ∷ filter p vs) (filter p vs)) ≡ cond (w v) (v ∷ filter w vs) (filter w vs)) [
      | true ↦ λ e. ap (λ xs. cond (w v) (v ∷ xs) xs) rest
      | false ↦ λ e. rest ∙ sym (ap (λ c. cond c (v ∷ filter w vs) (filter w vs)) (off v e))
    ] in
    by (p v) refl

no_writer : (ds : List Departure) (s i : ℕ) (v : LogUnit) → (v.sector == s) ≡ false → writes ds s i v ≡ false
unfolding writes
no_writer ds s i v other = rw other refl

-- units of other sectors do not change what is left of a sector
pub sector_of_row : (log : LogValue) (us : List LogUnit) (ds : List Departure) (s : ℕ) → sector_after log (covering s us) ds s ≡ sector_after log us ds s
unfolding sector_after byte_after covering
sector_of_row log us ds s =
    ap (λ (f : ℕ → ℕ). map f (range_with_len 0 512))
    (λ j i. ap (λ (vs : List LogUnit). option_map_or (λ (u : LogUnit). slice_index (unit_content log.entries u) i) (last_or None vs) (initial_byte log.initial s i))
    (narrowed (writes ds s i) (λ (u : LogUnit). u.sector == s) (no_writer ds s i) us) j)

-- a sector that is lent: nothing of a unit shows, and the initial content stands
pub lent_initial : (log : LogValue) (k s : ℕ) (ds : List Departure) → showing ds (versions log.entries k s) ≡ None
    → initial_sector log.initial s ≡ sector_after log (units_before log.entries k) ds s
unfolding initial_sector
lent_initial log k s ds none =
    let byte : ℕ → ℕ = initial_byte log.initial s in
    let all = shows log ds s (units_before log.entries k) in
    sector_by_bytes log (units_before log.entries k) ds s (map byte (range_with_len 0 512)) (length-map-range_with_len byte 0 512)
    (λ i lt. let here : 0 + i ≡ i = omega arith in all.nobody none i lt ∙ sym (get_or-map-range_with_len byte 0 512 i i 0 lt here))

-- the unit that shows is whole: its content can be lent for the sector
pub lent_whole : (log : LogValue) (k s : ℕ) (ds : List Departure) (u : LogUnit) (content : List ℕ) → showing ds (versions log.entries k s) ≡ Some u
    → fate_at ds u ≡ None → content ≡ unit_content log.entries u → length content ≡ 512
    → content ≡ sector_after log (units_before log.entries k) ds s
lent_whole log k s ds u content at whole is long =
    let own = shows log ds s (units_before log.entries k) in
    sector_by_bytes log (units_before log.entries k) ds s content long
    (λ i lt. own.whole u at whole i lt ∙ ap (λ bytes. slice_index bytes i) (sym is))

-- whether a torn unit shows
pub not_torn_initial : (ds : List Departure) (row : List LogUnit) → showing ds row ≡ None → false ≡ is_torn ds row
unfolding is_torn
not_torn_initial ds row none = sym (ap (λ o. option_map_or (λ (u : LogUnit). is_some (fate_at ds u)) o false) none)

torn_by : (ds : List Departure) (row : List LogUnit) (u : LogUnit) → showing ds row ≡ Some u → is_torn ds row ≡ is_some (fate_at ds u)
unfolding is_torn
torn_by ds row u at = ap (λ o. option_map_or (λ (v : LogUnit). is_some (fate_at ds v)) o false) at

-- the unit that shows is whole, so the sector is not torn; it has a fate, so the sector is
pub not_torn_whole : (ds : List Departure) (row : List LogUnit) (u : LogUnit) → showing ds row ≡ Some u → fate_at ds u ≡ None → false ≡ is_torn ds row
not_torn_whole ds row u at whole = sym (torn_by ds row u at ∙ ap is_some whole)

pub torn_shows : (ds : List Departure) (row : List LogUnit) (u : LogUnit) (f : Fate) → showing ds row ≡ Some u → fate_at ds u ≡ Some f → true ≡ is_torn ds row
torn_shows ds row u f at fated = sym (torn_by ds row u at ∙ ap is_some fated)

-- the unit that shows is one of the log
pub unit_showing : (log : LogValue) (k s : ℕ) (ds : List Departure) (u : LogUnit) → IsLog log → k ≤ length log.entries
    → showing ds (versions log.entries k s) ≡ Some u → IsUnit log u × (u.sector ≡ s)
unit_showing log k s ds u is le at =
    let us = units_before log.entries k in
    let place = (shows log ds s us).there u at in
    let P : LogUnit → Type 0 = λ v. IsUnit log v × (v.entry < k) in
    let read = get_or_from_slice_get us place.0 u u place.1 in
    let unit = subst P read (units_of_log log k is le place.0 u (slice_get_within us place.0 u place.1)) in
    (unit.0, place.2)
