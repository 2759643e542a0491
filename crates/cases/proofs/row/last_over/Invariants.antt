use Rattle.std.proofs.Common.{◌≡◌, ◌≤◌}
use Rattle.cases.specs.Rows.{row}
use Rattle.cases.proofs.row.last_over.Given as goal

abbrev pub invariant-loop-number : goal.invariant-loop-number
invariant-loop-number l = record {
  so : row l.fn.log.entries l.fn.cut l.fn.sector ≡ row l.fn.log.entries l.number l.fn.sector;
  high : l.number ≤ l.fn.cut;
  low : l.fn.floor ≤ l.number;
}

abbrev pub decreases-loop-number : goal.decreases-loop-number
decreases-loop-number l = l.number
