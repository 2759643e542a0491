use Rattle.std.proofs.Common.{◌≡◌, ◌++◌, ◌∷◌, [], ◌∙◌, ap, sym, arith}
use Rattle.epochs.specs.Units.{unit_of}
use Rattle.images.proofs.Entries.{one_more, all_of_entry, sector_fits, units_up_to, entry_read}
use Rattle.images.proofs.Growing.{up_to_none}
use Rattle.images.proofs.table.put_entry.Goals as goal

pub loop-place-init : goal.loop-place-init
loop-place-init c = c.requires.before ∙ sym (up_to_none c.args.log.now.entries c.args.number c.index-entries-number.result)

pub overflow_add-unit : goal.overflow_add-unit
overflow_add-unit c =
    let here = entry_read c.args.log.now _ c.args.number _ c.requires.entry c.entries.ensures.value c.index-entries-number.is in
    let small = sector_fits c.args.log.now _ _ _ c.entries.ensures.bounds here c.loop-place-test.true in
    omega (arith, small)

pub overflow_cast-unit-in-loop-place : goal.overflow_cast-unit-in-loop-place
overflow_cast-unit-in-loop-place c =
    let here = entry_read c.args.log.now _ c.args.number _ c.requires.entry c.entries.ensures.value c.index-entries-number.is in
    let small = sector_fits c.args.log.now _ _ _ c.entries.ensures.bounds here c.loop-place-test.true in
    omega (arith, small)

pub loop-place-preserved : goal.loop-place-preserved
loop-place-preserved c =
    c.in_ok-push.ensures.items
    ∙ ap (λ us. us ++ unit_of c.args.number c.index-entries-number.result c.loop-place.place ∷ []) c.loop-place.invariant
    ∙ one_more c.args.log.now.entries c.args.number c.index-entries-number.result c.loop-place.place

pub returns : goal.returns
returns c =
    let here = entry_read c.args.log.now _ c.args.number _ c.requires.entry c.entries.ensures.value c.index-entries-number.is in
    let all : c.loop-place.place ≡ c.index-entries-number.result.count = omega (arith, c.loop-place.auto.place-end, c.loop-place-test.false) in
    c.loop-place.invariant
    ∙ ap (units_up_to c.args.log.now.entries c.args.number c.index-entries-number.result) all ∙ all_of_entry c.args.log.now.entries c.args.number _ here
