use Rattle.std.proofs.Common.{refl, arith}
use Rattle.std.proofs.lemmas.Option.{slice_get_read}
use Rattle.epochs.proofs.Rows.{begin, go_on, all_rows, room_for_row, row_fits}
use Rattle.epochs.proofs.table.rows_of.Goals as goal

pub loop-entry-init : goal.loop-entry-init
loop-entry-init c = rw (c.in_ok-push.ensures.items, c.in_ok-rows.ensures.items) (begin c.args.by c.args.entries.now _ refl)

pub after-row-requires-clause-units : goal.after-row-requires-clause-units
after-row-requires-clause-units c =
    let here = slice_get_read c.args.entries.now _ c.loop-entry.entry-index c.entry-item.result refl (omega arith) c.entry-item.is in
    room_for_row _ _ _ _ _ c.loop-entry.invariant.last here c.requires.units

pub after-row-requires-clause-epoch : goal.after-row-requires-clause-epoch
after-row-requires-clause-epoch c =
    (row_fits _ _ _ _ c.loop-entry.invariant.last c.requires.count c.requires.units (omega arith)).epoch

pub after-row-requires-clause-marks : goal.after-row-requires-clause-marks
after-row-requires-clause-marks c =
    (row_fits _ _ _ _ c.loop-entry.invariant.last c.requires.count c.requires.units (omega arith)).marks

pub loop-entry-preserved : goal.loop-entry-preserved
loop-entry-preserved c =
    let here = slice_get_read c.args.entries.now _ c.loop-entry.entry-index c.entry-item.result refl (omega arith) c.entry-item.is in
    rw (c.in_ok-push-2.ensures.items, c.after-row.ensures)
    (go_on c.args.by c.args.entries.now c.loop-entry.entry-index c.loop-entry.rows.items c.loop-entry.row c.entry-item.result c.loop-entry.invariant here)

pub returns : goal.returns
returns c = all_rows _ _ _ _ _ c.loop-entry.invariant (omega arith)
