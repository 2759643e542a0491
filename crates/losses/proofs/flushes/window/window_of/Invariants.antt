use Rattle.std.proofs.Common.{ℕ, ◌≡◌, ◌-◌, ◌≤◌, ◌<◌, false}
use Rattle.losses.specs.Windows.{is_end}
use Rattle.losses.proofs.flushes.window.window_of.Given as goal

abbrev pub invariant-loop-end : goal.invariant-loop-end
invariant-loop-end l =
    (l.start ≤ l.end) × (l.end ≤ l.fn.cut) × ((e : ℕ) → l.end ≤ e → e < l.fn.cut → is_end l.fn.by l.fn.log.entries l.fn.departures e ≡ false)

abbrev pub decreases-loop-end : goal.decreases-loop-end
decreases-loop-end l = l.end - l.start
