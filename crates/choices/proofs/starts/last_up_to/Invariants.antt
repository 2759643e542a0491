use Rattle.std.proofs.Common.{◌-◌, ◌<◌, ◌≤◌, length, slice_index_or}
use Rattle.choices.proofs.starts.last_up_to.Given as goal

abbrev pub invariant-loop-low : goal.invariant-loop-low
invariant-loop-low l = (l.low < l.high) × (l.high < length l.sums) × (slice_index_or l.sums l.low 0 ≤ l.number) × (l.number < slice_index_or l.sums l.high 0)

abbrev pub decreases-loop-low : goal.decreases-loop-low
decreases-loop-low l = l.high - l.low
