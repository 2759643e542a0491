use Rattle.std.proofs.Common.{◌≡◌, ◌++◌, string_bytes, take}
use Rattle.std.specs.List.{flat_map}
use Rattle.known_text.specs.Ranges.{next_range}
use Rattle.known_text.proofs.looked.put_rest.Given as goal

abbrev pub invariant-loop-range : goal.invariant-loop-range
invariant-loop-range l = string_bytes l.out ≡ string_bytes l.initial.out ++ flat_map next_range (take l.range-index l.ranges)
