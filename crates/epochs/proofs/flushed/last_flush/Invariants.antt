use Rattle.std.proofs.Common.{◌≡◌, ◌≤◌}
use Rattle.epochs.specs.Laws.{last_flush}
use Rattle.epochs.proofs.flushed.last_flush.Given as goal

abbrev pub invariant-loop-number : goal.invariant-loop-number
invariant-loop-number l = (last_flush l.entries l.cut ≡ last_flush l.entries l.number) × (l.number ≤ l.cut)

abbrev pub decreases-loop-number : goal.decreases-loop-number
decreases-loop-number l = l.number
