use Rattle.std.proofs.Common.{◌≡◌, take}
use Rattle.std.specs.List.{flat_map}
use Rattle.known_text.specs.Ranges.{sectors_in}
use Rattle.known_text.proofs.looked.sectors_of.Given as goal

abbrev pub invariant-loop-range : goal.invariant-loop-range
invariant-loop-range l = l.out.items ≡ flat_map sectors_in (take l.range-index l.ranges)
