use Rattle.std.proofs.Common.{◌≡◌, ◌+◌, [], sym, ◌∙◌, ap, arith}
use Rattle.logfmt.specs.Bounds.{LogValue}
use Rattle.images.specs.Images.{sector_after}
use Rattle.images.specs.Changes.{changes, whole_image}
use Rattle.images.proofs.Entries.{one_more, all_of_entry, unit_of_entry, sector_fits, units_up_to, entry_read}
use Rattle.images.proofs.Growing.{between_is, up_to_none}
use Rattle.images.proofs.changes.put_entry.Goals as goal

pub loop-place-init : goal.loop-place-init
loop-place-init c =
    c.requires.known ∙ sym (between_is c.args.versions.now c.args.flush c.args.number _ (up_to_none c.args.versions.now.entries c.args.number c.index-entries-number.result))

pub overflow_add-unit : goal.overflow_add-unit
overflow_add-unit c =
    let entries = c.entries.ensures.value ∙ ap (λ (l : LogValue). l.entries) c.log.ensures.value in
    let here = entry_read c.args.versions.now _ c.args.number _ c.requires.entry entries c.index-entries-number.is in
    let small = sector_fits c.args.versions.now _ _ _ c.log.ensures.bounds here c.loop-place-test.true in
    omega (arith, small)

pub overflow_cast-unit-in-loop-place : goal.overflow_cast-unit-in-loop-place
overflow_cast-unit-in-loop-place c =
    let entries = c.entries.ensures.value ∙ ap (λ (l : LogValue). l.entries) c.log.ensures.value in
    let here = entry_read c.args.versions.now _ c.args.number _ c.requires.entry entries c.index-entries-number.is in
    let small = sector_fits c.args.versions.now _ _ _ c.log.ensures.bounds here c.loop-place-test.true in
    omega (arith, small)

pub put_unit-requires-clause-unit : goal.put_unit-requires-clause-unit
put_unit-requires-clause-unit c =
    let entries = c.entries.ensures.value ∙ ap (λ (l : LogValue). l.entries) c.log.ensures.value in
    let here = entry_read c.args.versions.now _ c.args.number _ c.requires.entry entries c.index-entries-number.is in
    unit_of_entry c.args.versions.now _ _ _ c.log.ensures.bounds here c.loop-place-test.true

pub loop-place-preserved : goal.loop-place-preserved
loop-place-preserved c =
    let log = c.args.versions.now in
    let up = units_up_to log.entries c.args.number c.index-entries-number.result c.loop-place.place in
    c.in_ok-put_unit.ensures up c.loop-place.invariant
    ∙ ap (λ us. changes (whole_image log c.args.flush) (sector_after log us []) 0 log.sectors)
    (one_more log.entries c.args.number c.index-entries-number.result c.loop-place.place)

pub returns : goal.returns
returns c =
    let log = c.args.versions.now in
    let entries = c.entries.ensures.value ∙ ap (λ (l : LogValue). l.entries) c.log.ensures.value in
    let here = entry_read log _ c.args.number _ c.requires.entry entries c.index-entries-number.is in
    let all : c.loop-place.place ≡ c.index-entries-number.result.count = omega (arith, c.loop-place.auto.place-end, c.loop-place-test.false) in
    c.loop-place.invariant
    ∙ between_is log c.args.flush (c.args.number + 1) _
    (ap (units_up_to log.entries c.args.number c.index-entries-number.result) all ∙ all_of_entry log.entries c.args.number _ here)
