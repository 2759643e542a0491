use Rattle.std.proofs.Common.{◌≡◌, ◌+◌, take}
use Rattle.std.specs.List.{sum_by}
use Rattle.known_text.specs.Ranges.{count_in}
use Rattle.known_text.proofs.looked.are_few.Given as goal

abbrev pub invariant-loop-range : goal.invariant-loop-range
invariant-loop-range l = sum_by count_in (take l.range-index l.ranges) + l.left ≡ l.sectors
