use Rattle.std.proofs.Common.{◌++◌, ◌+◌, ◌*◌, take, drop, ap, ◌∙◌, arith}
use Rattle.lanes.proofs.Sectors.{spliced_more}
use Rattle.lanes.proofs.splicing.splice.Goals as goal

pub loop-row-preserved : goal.loop-row-preserved
loop-row-preserved c =
    let so_far = c.loop-row.spliced in
    let at = 64 * c.loop-row.row in
    let now = c.store_row.ensures ∙ ap (λ lanes. take at so_far ++ lanes ++ drop (at + 64) so_far) c.load_row.ensures in
    spliced_more c.args.new.now c.args.old.now so_far _ c.loop-row.row (omega arith) (omega arith) c.loop-row.invariant now
