-- The units of an entry, laid one after the other, and their contents.
use Rattle.std.proofs.Common.{ℕ, ◌≡◌, ◌+◌, ◌*◌, ◌<◌, ◌≤◌, true, false, if◌then◌else◌, List, [], ◌∷◌, ◌++◌, length, map, replicate, slice_get, Some, refl, sym, ◌∙◌, ap, arith, append_assoc, add-one}
use Rattle.std.specs.List.{slice_index_or}
use Rattle.std.proofs.lemmas.Option.{get_or_from_slice_get, same_Some, slice_get_read}
use Rattle.std.specs.List.{range_with_len, slice_range}
use Rattle.std.specs.Option.{option_map_or}
use Rattle.std.proofs.lemmas.List.{map-append}
use Rattle.base.specs.Sizes.{most_sectors}
use Rattle.base.specs.Numbers.{zeros}
use Rattle.base.proofs.Lists.{range_with_len-more}
use Rattle.logfmt.specs.declared.entry.Entry.{Entry}
use Rattle.logfmt.specs.Bounds.{LogValue, IsLog}
use Rattle.epochs.specs.declared.unit.Unit.{Unit as LogUnit}
use Rattle.epochs.specs.Units.{unit_of, units_before, unit_content}
use Rattle.epochs.specs.Plan.{IsUnit}
use Rattle.epochs.proofs.Growth.{units_before-next}

-- the content of a unit, by its entry
content_by : (es : List Entry) (u : LogUnit) (entry : Entry) → slice_get es u.entry ≡ Some entry
    → unit_content es u ≡ (if entry.flags.discard then zeros 512 else slice_range entry.content (512 * u.place) (512 * u.place + 512))
unfolding unit_content
content_by es u entry there =
    ap (λ o. option_map_or (λ (e : Entry). if e.flags.discard then zeros 512 else slice_range e.content (512 * u.place) (512 * u.place + 512)) o []) there

-- a unit of a discard is zeros, and one of a write its sector of the data
pub discarded : (es : List Entry) (u : LogUnit) (entry : Entry) → slice_get es u.entry ≡ Some entry → entry.flags.discard ≡ true
    → replicate {A = ℕ} 512 0 ≡ unit_content es u
unfolding zeros
discarded es u entry there flag =
    sym (content_by es u entry there ∙ ap (λ b. if b then zeros 512 else slice_range entry.content (512 * u.place) (512 * u.place + 512)) flag)

pub written : (es : List Entry) (u : LogUnit) (entry : Entry) → slice_get es u.entry ≡ Some entry → entry.flags.discard ≡ false
    → slice_range entry.content (512 * u.place) (512 * u.place + 512) ≡ unit_content es u
written es u entry there flag =
    sym (content_by es u entry there ∙ ap (λ b. if b then zeros 512 else slice_range entry.content (512 * u.place) (512 * u.place + 512)) flag)

-- a write has the data of each of its units
room : (log : LogValue) (i : ℕ) (entry : Entry) (place : ℕ) → IsLog log → slice_get log.entries i ≡ Some entry → entry.flags.discard ≡ false → place < entry.count
    → 512 * place + 512 ≤ length entry.content
room log i entry place is there flag lt =
    let size : length entry.content ≡ 512 * entry.count =
    (is.entries i entry there).content ∙ ap (λ b. 512 * (if b then 0 else entry.count)) flag in
    omega (arith, size, lt)

-- the entry of a unit, as it is read
pub entry_there : (log : LogValue) (u : LogUnit) (es : List Entry) (x : Entry) → IsUnit log u → es ≡ log.entries → x ≡ slice_index_or es u.entry x
    → slice_get log.entries u.entry ≡ Some x
entry_there log u es x at is read =
    at.there
    ∙ ap (λ e. Some e)
    (sym (read ∙ ap (λ xs. slice_index_or xs u.entry x) is ∙ get_or_from_slice_get log.entries u.entry at.entry x at.there))

-- the sector of a unit of a write lies inside the data
pub unit_room : (log : LogValue) (u : LogUnit) (x : Entry) → IsLog log → IsUnit log u → slice_get log.entries u.entry ≡ Some x → x.flags.discard ≡ false
    → 512 * u.place + 512 ≤ length x.content
unit_room log u x is at there flag =
    let same : at.entry ≡ x = same_Some at.entry x (sym at.there ∙ there) in
    let count : at.entry.count ≡ x.count = ap (λ (e : Entry). e.count) same in
    room log u.entry x u.place is there flag (omega (arith, count, at.place))

-- the units before an entry and the first of its own
abbrev pub units_up_to : List Entry → ℕ → Entry → ℕ → List LogUnit
units_up_to es e entry j = units_before es e ++ map (unit_of e entry) (range_with_len 0 j)

-- the units of an entry up to one, and all of them
pub one_more : (es : List Entry) (e : ℕ) (entry : Entry) (j : ℕ) → units_up_to es e entry j ++ unit_of e entry j ∷ [] ≡ units_up_to es e entry (j + 1)
one_more es e entry j =
    let here : 0 + j ≡ j = omega arith in
    append_assoc (units_before es e) (map (unit_of e entry) (range_with_len 0 j)) (unit_of e entry j ∷ [])
    ∙ ap (λ us. units_before es e ++ us)
    (sym (ap (map (unit_of e entry)) (range_with_len-more 0 j) ∙ map-append (unit_of e entry) (range_with_len 0 j) ((0 + j) ∷ [])
    ∙ ap (λ n. map (unit_of e entry) (range_with_len 0 j) ++ unit_of e entry n ∷ []) here))

pub all_of_entry : (es : List Entry) (e : ℕ) (entry : Entry) → slice_get es e ≡ Some entry → units_up_to es e entry entry.count ≡ units_before es (e + 1)
all_of_entry es e entry there = sym (ap (units_before es) (add-one e) ∙ units_before-next es e entry there)

-- a unit of an entry lies on the device
pub unit_of_entry : (log : LogValue) (e : ℕ) (entry : Entry) (j : ℕ) → IsLog log → slice_get log.entries e ≡ Some entry → j < entry.count
    → IsUnit log (unit_of e entry j)
unit_of_entry log e entry j is there lt =
    let on : entry.sector + entry.count ≤ log.sectors = (is.entries e entry there).device (omega (arith, lt)) in
    record { entry = entry; there = there; place = lt; sector = refl; device = omega (arith, on, lt) }

-- an entry, as it is read
pub entry_read : (log : LogValue) (es : List Entry) (e : ℕ) (x : Entry) → e < length log.entries → es ≡ log.entries → x ≡ slice_index_or es e x
    → slice_get log.entries e ≡ Some x
entry_read log es e x lt is read = slice_get_read log.entries (length log.entries) e x refl lt (read ∙ ap (λ xs. slice_index_or xs e x) is)

-- its units lie on the device
pub sector_fits : (log : LogValue) (e : ℕ) (entry : Entry) (j : ℕ) → IsLog log → slice_get log.entries e ≡ Some entry → j < entry.count
    → entry.sector + j < most_sectors
sector_fits log e entry j is there lt =
    let on : entry.sector + entry.count ≤ log.sectors = (is.entries e entry there).device (omega (arith, lt)) in
    omega (arith, on, lt, is.device)
