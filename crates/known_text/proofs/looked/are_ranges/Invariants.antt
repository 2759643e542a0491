use Rattle.std.proofs.Common.{◌≡◌, drop}
use Rattle.std.specs.List.{list_all}
use Rattle.known_text.specs.Ranges.{is_range}
use Rattle.known_text.proofs.looked.are_ranges.Given as goal

abbrev pub invariant-loop-range : goal.invariant-loop-range
invariant-loop-range l = list_all (is_range l.sectors) (drop l.range-index l.ranges) ≡ list_all (is_range l.sectors) l.ranges
