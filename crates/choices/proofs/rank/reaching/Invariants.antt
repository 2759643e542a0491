use Rattle.std.proofs.Common.{◌-◌, ◌<◌, ◌≤◌}
use Rattle.choices.specs.Ways.{ways}
use Rattle.choices.proofs.rank.reaching.Given as goal

abbrev pub invariant-loop-low : goal.invariant-loop-low
invariant-loop-low l = (l.low < l.high) × (l.high ≤ l.parts) × (ways l.fates l.size l.low < l.left) × (l.left ≤ ways l.fates l.size l.high)

abbrev pub decreases-loop-low : goal.decreases-loop-low
decreases-loop-low l = l.high - l.low
