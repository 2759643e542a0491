use Rattle.lanes.proofs.Mixes.{columns_none, columns_more}
use Rattle.lanes.proofs.mixing.columns.Goals as goal

pub loop-row-init : goal.loop-row-init
loop-row-init c = columns_none c.args.sector.now

pub loop-row-preserved : goal.loop-row-preserved
loop-row-preserved c = columns_more c.args.sector.now c.loop-row.sums c.words.result c.add_row-sums.result c.loop-row.row c.loop-row.invariant c.words.ensures c.add_row-sums.ensures
