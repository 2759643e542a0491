use Rattle.std.proofs.Common.{refl, sym, ◌∙◌}
use Rattle.lanes.proofs.Sectors.{same_so_far}
use Rattle.lanes.proofs.compare.same.Goals as goal

pub loop-row-preserved : goal.loop-row-preserved
loop-row-preserved c =
    let equal = c.if-not-same_lanes.ensures.0 refl in
    same_so_far c.args.left.now c.args.right.now c.loop-row.row c.loop-row.invariant (sym c.load_row.ensures ∙ equal ∙ c.load_row-in-loop-row.ensures)
