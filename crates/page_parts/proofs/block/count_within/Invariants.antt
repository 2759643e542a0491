use Rattle.std.proofs.Common.{◌≡◌, ◌≤◌, length, filter, take}
use Rattle.page_parts.specs.Blocks.{fails_within}
use Rattle.page_parts.proofs.block.count_within.Given as goal

abbrev pub invariant-loop-cut : goal.invariant-loop-cut
invariant-loop-cut l = (l.count ≡ length (filter (fails_within l.block.from l.block.to) (take l.cut-index l.cuts))) × (l.count ≤ l.cut-index)
