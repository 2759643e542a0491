use Rattle.std.proofs.Common.{◌*◌, ◌+◌, ◌/◌, ◌∙◌, ap, arith}
use Rattle.images.specs.Table.{covering}
use Rattle.images.proofs.Rows.{covering_between, in_order}
use Rattle.images.proofs.table.UnitTable.row.Goals as goal

pub place_in-first-requires-clause-order : goal.place_in-first-requires-clause-order
place_in-first-requires-clause-order c =
    in_order c.args.self.now.units.items (64 * (c.args.number / 64)) (64 * (c.args.number / 64 + 1)) _ _ (omega arith) c.low_of-low.ensures.bound
    c.high_of-high.ensures.bound c.low_of-low.ensures.before c.high_of-high.ensures.beyond

pub returns : goal.returns
returns c =
    let first = c.place_in-first.ensures.place in
    let end = c.place_in-end.ensures.place in
    (covering_between c.as_slice-units.result.now c.args.number c.place_in-first.result c.place_in-end.result first.bound end.bound first.before first.beyond
    end.before end.beyond).1
    ∙ ap (covering c.args.number) c.as_slice-units.ensures.value
