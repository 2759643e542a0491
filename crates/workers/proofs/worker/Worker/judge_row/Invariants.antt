use Rattle.std.proofs.Common.{◌≡◌, ◌-◌, ◌≤◌}
use Rattle.workers.specs.Failing.{lines_from}
use Rattle.workers.specs.Images.{IsRow}
use Rattle.workers.specs.Local.{IsLocal}
use Rattle.workers.proofs.worker.Worker.judge_row.Given as goal

abbrev pub invariant-loop-row : goal.invariant-loop-row
invariant-loop-row g l = (l.lines ≡ lines_from l.self.input.now l.first (l.row.image - l.first)) × (l.first ≤ l.row.image) × (l.row.end ≡ l.end)
    × IsRow l.self.input.now l.row × IsLocal l.self.input.now l.local

abbrev pub decreases-loop-row : goal.decreases-loop-row
decreases-loop-row g l = l.end - l.row.image
