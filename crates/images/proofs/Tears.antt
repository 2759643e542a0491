-- The sectors in which a torn unit shows: each has a departure of that unit.
use Rattle.std.proofs.Common.{ℕ, ◌≡◌, ◌+◌, ◌-◌, ◌<◌, ◌≤◌, true, false, List, [], ◌∷◌, ◌++◌, length, slice_get, Option, Some, None, refl, sym, subst, ◌∙◌, ap, inl, inr, arith, length-append}
use Rattle.std.specs.Option.{option_map_or, is_some}
use Rattle.std.proofs.lemmas.Bool.{cases_lt}
use Rattle.std.proofs.lemmas.Option.{slice_get_within, same_Some}
use Rattle.base.proofs.Lists.{slice_get-append_left, slice_get-push, slice_get_of_push}
use Rattle.logfmt.specs.declared.entry.Entry.{Entry}
use Rattle.logfmt.specs.Bounds.{LogValue, IsLog}
use Rattle.epochs.specs.declared.part.Part.{Part}
use Rattle.epochs.specs.declared.unit.Unit.{Unit as LogUnit}
use Rattle.epochs.specs.Units.{units_before}
use Rattle.epochs.specs.Plan.{IsUnit, IsPart}
use Rattle.choices.specs.declared.fate.Fate.{Fate}
use Rattle.choices.specs.declared.choice.Departure.{Departure}
use Rattle.images.specs.declared.torn.TornSector.{TornSector}
use Rattle.images.specs.Images.{is_in, sector_after}
use Rattle.images.specs.Table.{versions, share, leaves, tear_of, fate_at, showing, is_torn, HasSector, AreTorn}
use Rattle.images.proofs.Kept.{some_departure}
use Rattle.images.proofs.Shares.{lies_in, taken, tears_by, torn_there}
use Rattle.images.proofs.Showing.{showing_reaches}
use Rattle.images.proofs.Spliced.{unit_showing}

-- the sector of the device in which a departure tears its part
abbrev pub tear_sector : Departure → ℕ
tear_sector d = d.part.sector + tear_of d.fate d.part.count

-- what is torn by the first n departures
pub record TornSoFar (log : LogValue) (cut : ℕ) (ds : List Departure) (n : ℕ) (torn : List TornSector) : Type 0 where
  pub few : length torn ≤ n
  pub bytes : (j : ℕ) (t : TornSector) → slice_get torn j ≡ Some t
      → t.content ≡ sector_after log (units_before log.entries cut) ds t.number
  pub each : (i : ℕ) (d : Departure) → i < n → slice_get ds i ≡ Some d → leaves (Some d.fate) ≡ true → HasSector torn (tear_sector d)

-- a departure that tears nothing
pub not_torn : (log : LogValue) (cut : ℕ) (ds : List Departure) (n : ℕ) (torn : List TornSector) (d : Departure) → TornSoFar log cut ds n torn
    → slice_get ds n ≡ Some d → leaves (Some d.fate) ≡ false → TornSoFar log cut ds (n + 1) torn
not_torn log cut ds n torn d was here dropped = record {
  few = let few = was.few in omega (arith, few);
  bytes = was.bytes;
  each = λ i e lt there tears. elim (cases_lt i n) [
    | inl less ↦ was.each i e less there tears
    | inr past ↦
        let same : i ≡ n = omega (arith, lt, past) in
        let one : e ≡ d = same_Some e d (sym there ∙ ap (slice_get ds) same ∙ here) in
        let bad : false ≡ true = sym dropped ∙ ap (λ (f : Departure). leaves (Some f.fate)) (sym one) ∙ tears in
        absurd (let b : false ≡ true = bad in cc)
  ];
}

pub one_torn : (log : LogValue) (cut : ℕ) (ds : List Departure) (n : ℕ) (torn more : List TornSector) (d : Departure) (t : TornSector)
    → TornSoFar log cut ds n torn → slice_get ds n ≡ Some d → more ≡ torn ++ t ∷ [] → t.number ≡ tear_sector d
    → t.content ≡ sector_after log (units_before log.entries cut) ds (tear_sector d) → TornSoFar log cut ds (n + 1) more
one_torn log cut ds n torn more d t was here is number content =
    let long = ap length is ∙ length-append torn (t ∷ []) in
    record {
      few = let few = was.few in omega (arith, few, long);
      bytes = λ j s there. elim (slice_get_of_push torn t j s (ap (λ ts. slice_get ts j) (sym is) ∙ there)) [
        | inl old ↦ was.bytes j s old
        | inr last ↦ ap (λ (x : TornSector). x.content) last.1 ∙ content
            ∙ ap (sector_after log (units_before log.entries cut) ds) (sym number ∙ ap (λ (x : TornSector). x.number) (sym last.1))
      ];
      each = λ i e lt there tears. elim (cases_lt i n) [
        | inl less ↦
            let has = was.each i e less there tears in
            (has.0, has.1, ap (λ ts. slice_get ts has.0) is ∙ slice_get-append_left torn (t ∷ []) has.0 (slice_get_within torn has.0 has.1 has.2) ∙ has.2, has.3)
        | inr past ↦
            let same : i ≡ n = omega (arith, lt, past) in
            let one : e ≡ d = same_Some e d (sym there ∙ ap (slice_get ds) same ∙ here) in
            (length torn, t, ap (λ ts. slice_get ts (length torn)) is ∙ slice_get-push torn t, number ∙ ap (λ (f : Departure). tear_sector f) (sym one))
      ];
    }

-- a unit of a part lies in one of the part's sectors
pub one_sector : (log : LogValue) (p : Part) (u : LogUnit) → IsPart log p → IsUnit log u → is_in p u ≡ true → u.sector ≡ p.sector + (u.place - p.place)
one_sector log p u one two same =
    let at = lies_in p u same in
    let own : one.entry ≡ two.entry = same_Some one.entry two.entry (sym one.there ∙ ap (slice_get log.entries) at.entry ∙ two.there) in
    let first = ap (λ (e : Entry). e.sector) own in
    let left = one.sector in
    let right = two.sector in
    let low = at.low in
    omega (arith, first, left, right, low)

-- the unit that shows is torn where its part is
torn_here : (log : LogValue) (d : Departure) (u : LogUnit) (f : Fate) → IsPart log d.part → IsUnit log u → share d u ≡ Some f → leaves (Some f) ≡ true
    → tear_sector d ≡ u.sector
torn_here log d u f part unit of left =
    let own = taken d u f of in
    let at = lies_in d.part u own.0 in
    let low = at.low in
    let high = at.high in
    let place = torn_there d.fate d.part.count (u.place - d.part.place) f (omega (arith, low, high)) own.1 left in
    sym (one_sector log d.part u part unit own.0 ∙ ap (λ n. d.part.sector + n) place)

-- what leaves something of a unit, and not all of it, isn't a drop
tears_it : (d : Departure) (u : LogUnit) (f : Fate) → share d u ≡ Some f → leaves (Some f) ≡ true → leaves (Some d.fate) ≡ true
tears_it d u f of left = tears_by d.fate d.part.count (u.place - d.part.place) f (taken d u f of).1 left

unit_torn : (ds : List Departure) (row : List LogUnit) → is_torn ds row ≡ true
    → (u : LogUnit) × (f : Fate) × (showing ds row ≡ Some u) × (fate_at ds u ≡ Some f) × (leaves (Some f) ≡ true)
unfolding is_torn
unit_torn ds row torn =
    let fated : (u : LogUnit) → showing ds row ≡ Some u → is_some (fate_at ds u) ≡ true → (f : Fate) × (fate_at ds u ≡ Some f) × (leaves (Some f) ≡ true) =
    λ u at h.
    let of : (o : Option Fate) → fate_at ds u ≡ o → is_some o ≡ true → (f : Fate) × (fate_at ds u ≡ Some f) × (leaves (Some f) ≡ true) =
    λ o. elim o as (λ p. fate_at ds u ≡ p → is_some p ≡ true → (f : Fate) × (fate_at ds u ≡ Some f) × (leaves (Some f) ≡ true)) [
      | None ↦ λ e k. absurd (let bad : false ≡ true = k in cc)
      | Some f ↦ λ e k. (f, e, sym (ap leaves e) ∙ showing_reaches ds row u at)
    ] in
    of (fate_at ds u) refl h in
    let of : (o : Option LogUnit) → showing ds row ≡ o → option_map_or (λ (u : LogUnit). is_some (fate_at ds u)) o false ≡ true
    → (u : LogUnit) × (f : Fate) × (showing ds row ≡ Some u) × (fate_at ds u ≡ Some f) × (leaves (Some f) ≡ true) =
    λ o. elim o as (λ p. showing ds row ≡ p → option_map_or (λ (u : LogUnit). is_some (fate_at ds u)) p false ≡ true
    → (u : LogUnit) × (f : Fate) × (showing ds row ≡ Some u) × (fate_at ds u ≡ Some f) × (leaves (Some f) ≡ true)) [
      | None ↦ λ e h. absurd (let bad : false ≡ true = h in cc)
      | Some u ↦ λ e h. let it = fated u e h in (u, it.0, e, it.1, it.2)
    ] in
    of (showing ds row) refl torn

pub all_torn : (log : LogValue) (cut : ℕ) (ds : List Departure) (n : ℕ) (torn : List TornSector) → IsLog log → cut ≤ length log.entries
    → ((i : ℕ) (d : Departure) → slice_get ds i ≡ Some d → IsPart log d.part) → length ds ≤ n
    → TornSoFar log cut ds n torn → AreTorn log cut ds torn
all_torn log cut ds n torn is le parts all so = record {
  bytes = so.bytes;
  all = λ s lt torn_there.
      let shown = unit_torn ds (versions log.entries cut s) torn_there in
      let unit = unit_showing log cut s ds shown.0 is le shown.2 in
      let departs = some_departure ds shown.0 shown.1 shown.3 in
      let d = departs.1 in
      let sector : tear_sector d ≡ s = torn_here log d shown.0 shown.1 (parts departs.0 d departs.2) unit.0 departs.3 shown.4 ∙ unit.1 in
      let within = slice_get_within ds departs.0 d departs.2 in
      let has = so.each departs.0 d (omega (arith, within, all)) departs.2 (tears_it d shown.0 shown.1 departs.3 shown.4) in
      (has.0, has.1, has.2, has.3 ∙ sector);
}

-- where no departure tears its part nothing has to be formed
pub none_tears : (log : LogValue) (cut : ℕ) (ds : List Departure) (torn : List TornSector) → IsLog log → cut ≤ length log.entries
    → ((i : ℕ) (d : Departure) → slice_get ds i ≡ Some d → IsPart log d.part) → ((i : ℕ) (d : Departure) → slice_get ds i ≡ Some d → leaves (Some d.fate) ≡ false)
    → torn ≡ [] → AreTorn log cut ds torn
none_tears log cut ds torn is le parts none empty =
    let so : TornSoFar log cut ds (length ds) [] = record {
      few = omega arith;
      bytes = λ j t there. absurd (let bad : None ≡ Some t = there in cc);
      each = λ i d lt there tears. absurd (let bad : false ≡ true = sym (none i d there) ∙ tears in cc);
    } in
    let P : List TornSector → Type 0 = λ ts. AreTorn log cut ds ts in
    subst P (sym empty) (all_torn log cut ds (length ds) [] is le parts (omega arith) so)

-- no torn unit shows where nothing departs
pub none_departs : (row : List LogUnit) → is_torn [] row ≡ false
unfolding is_torn fate_at
none_departs row =
    let of : (o : Option LogUnit) → option_map_or (λ (u : LogUnit). is_some (fate_at [] u)) o false ≡ false =
    λ o. elim o as (λ p. option_map_or (λ (u : LogUnit). is_some (fate_at [] u)) p false ≡ false) [ None ↦ refl | Some u ↦ refl ] in
    of (showing [] row)
