use Rattle.std.proofs.Common.{◌∙◌, arith}
use Rattle.workers.proofs.Reused.{lines_join}
use Rattle.workers.proofs.worker.Worker.judge_row.Goals as goal

pub loop-row-preserved : goal.loop-row-preserved
loop-row-preserved g c =
    let (lines, low, end, row, local) = c.loop-row.invariant in
    let some = c.in_ok-judge_some.ensures in (
      lines_join c.args.self.now.input.now c.args.first c.loop-row.row.image c.judge_some.new.row.image c.loop-row.lines _ low (omega (arith, some.fewer)) lines some.lines,
      omega (arith, low, some.fewer),
      some.end ∙ end,
      some.row,
      c.judge_some.ensures.local,
    )
