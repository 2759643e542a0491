use Rattle.std.proofs.Common.{refl, arith}
use Rattle.choices.proofs.Rows.{no_row, row_more}
use Rattle.choices.proofs.step.put_row.Goals as goal

pub loop-index-init : goal.loop-index-init
loop-index-init c = (no_row _ _, omega (arith, c.requires.room))

pub loop-index-preserved : goal.loop-index-preserved
loop-index-preserved c =
    let so = c.loop-index.invariant in (
      rw c.push.ensures.items (row_more _ _ _ _ _ so.0 refl),
      omega (arith, c.push.ensures.len, so.1, c.loop-index-test.true),
    )
