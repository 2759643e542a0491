use Rattle.std.proofs.Common.{◌≡◌, ◌≤◌, length, take}
use Rattle.images.specs.Table.{showing}
use Rattle.images.proofs.image.showing.Given as goal

abbrev pub invariant-loop-left : goal.invariant-loop-left
invariant-loop-left l = (l.left ≤ length l.row) × (showing l.departures (take l.left l.row) ≡ showing l.departures l.row)

abbrev pub decreases-loop-left : goal.decreases-loop-left
decreases-loop-left l = l.left
