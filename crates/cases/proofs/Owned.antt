-- The part that a unit is of, and its entry.
use Rattle.std.proofs.Common.{ℕ, ◌≡◌, ◌+◌, ◌<◌, ◌≤◌, true, List, filter, length, slice_get, Some, refl, sym, subst, ◌∙◌, ap, arith}
use Rattle.std.specs.Option.{option_map_or}
use Rattle.std.proofs.lemmas.Option.{same_Some}
use Rattle.base.specs.Sizes.{most_sectors}
use Rattle.logfmt.specs.declared.entry.Entry.{Entry}
use Rattle.logfmt.specs.Bounds.{LogValue, IsLog}
use Rattle.epochs.specs.declared.unit.Unit.{Unit as LogUnit}
use Rattle.epochs.specs.declared.part.Part.{Part}
use Rattle.epochs.specs.declared.part.By.{By}
use Rattle.epochs.specs.declared.part.By.TheVariants as by
use Rattle.epochs.specs.Units.{unit_of}
use Rattle.epochs.specs.Parts.{part_of, parts_before}
use Rattle.epochs.specs.Plan.{IsUnit}
use Rattle.cases.specs.Risk.{is_at_risk, parts_at_risk}
use Rattle.cases.specs.Rows.{part_with}
use Rattle.cases.specs.Laws.{IsAmong}
use Rattle.cases.proofs.Cases.{kept_among}
use Rattle.cases.proofs.Rows.{before_part, own_place, own_within, own_is}

-- the entry of a unit lies on the device
pub entry_fits : (log : LogValue) (u : LogUnit) (x : Entry) → IsLog log → IsUnit log u → slice_get log.entries u.entry ≡ Some x → x.sector + x.count ≤ most_sectors
entry_fits log u x is at there =
    let same : at.entry ≡ x = same_Some at.entry x (sym at.there ∙ there) in
    let count : at.entry.count ≡ x.count = ap (λ (e : Entry). e.count) same in
    let place = at.place in
    let on : x.sector + x.count ≤ log.sectors = (is.entries u.entry x there).device (omega (arith, count, place)) in
    let most = is.device in
    omega (arith, on, most)

-- by write it is all of its entry
pub part_whole : (es : List Entry) (way : By) (u : LogUnit) (x : Entry) → slice_get es u.entry ≡ Some x → way ≡ by.Write
    → ◌≡◌ {A = Part} (record { entry = u.entry; place = 0; count = x.count; sector = x.sector }) (part_with way es u)
part_whole es way u x there is =
    let count : x.count ≡ option_map_or (λ (entry : Entry). entry.count) (slice_get es u.entry) 0 = sym (ap (λ o. option_map_or (λ (entry : Entry). entry.count) o 0) there) in
    let sector : x.sector ≡ option_map_or (λ (entry : Entry). entry.sector) (slice_get es u.entry) 0 = sym (ap (λ o. option_map_or (λ (entry : Entry). entry.sector) o 0) there) in
    (λ i. record { entry = u.entry; place = 0; count = count i; sector = sector i }) ∙ ap (λ w. part_with w es u) (sym is)

-- units of the same place are of one part
part_alike : (way : By) (es : List Entry) (u v : LogUnit) → u.entry ≡ v.entry → u.place ≡ v.place → u.sector ≡ v.sector → part_with way es u ≡ part_with way es v
part_alike by.Sector es u v entry place sector = λ i. record { entry = entry i; place = place i; count = 1; sector = sector i }
part_alike by.Write es u v entry place sector = λ i. record {
  entry = entry i;
  place = 0;
  count = option_map_or (λ (x : Entry). x.count) (slice_get es (entry i)) 0;
  sector = option_map_or (λ (x : Entry). x.sector) (slice_get es (entry i)) 0;
}

-- the part of a unit at risk is one of the parts at risk
pub risky_among : (log : LogValue) (way : By) (k : ℕ) (u : LogUnit) → k ≤ length log.entries → IsUnit log u → u.entry < k → is_at_risk log.entries k u.entry ≡ true
    → IsAmong (parts_at_risk way log.entries k) (part_with way log.entries u)
unfolding parts_at_risk
risky_among log way k u le at lt risk =
    let es : List Entry = log.entries in
    let p : Part = part_of way u.entry at.entry (own_place way u.place) in
    let own : p ≡ part_with way es u =
    own_is way es u.entry at.entry u.place at.there ∙ part_alike way es (unit_of u.entry at.entry u.place) u refl refl (sym at.sector) in
    subst (λ (q : Part). IsAmong (filter (λ (r : Part). is_at_risk es k r.entry) (parts_before way es k)) q) own
    (kept_among (λ (r : Part). is_at_risk es k r.entry) (parts_before way es k) p
    (before_part way es k u.entry at.entry (own_place way u.place) le lt at.there (own_within way at.entry u.place at.place)) risk)
