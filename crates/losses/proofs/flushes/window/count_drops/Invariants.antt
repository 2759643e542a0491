use Rattle.std.proofs.Common.{◌≡◌, ◌≤◌, length, filter, take}
use Rattle.losses.specs.Windows.{drops}
use Rattle.losses.proofs.flushes.window.count_drops.Given as goal

abbrev pub invariant-loop-departure : goal.invariant-loop-departure
invariant-loop-departure l =
    (l.count ≡ length (filter (drops l.fn.entry) (take l.departure-index l.fn.departures))) × (l.count ≤ l.departure-index)
