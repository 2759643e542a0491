use Rattle.std.proofs.Common.{◌≡◌, ◌≤◌, length, filter, take}
use Rattle.page_parts.specs.Counts.{fails}
use Rattle.page_parts.proofs.counts.count_failing.Given as goal

abbrev pub invariant-loop-cut : goal.invariant-loop-cut
invariant-loop-cut l = (l.count ≡ length (filter fails (take l.cut-index l.cuts))) × (l.count ≤ l.cut-index)
