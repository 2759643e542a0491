use Rattle.std.proofs.Common.{◌≡◌, ◌++◌, string_bytes}
use Rattle.std.specs.List.{flat_map, range_with_len}
use Rattle.inspect.specs.Layout.{part_line}
use Rattle.inspect.proofs.looks.layout.put_layout.Given as goal

abbrev pub invariant-loop-part : goal.invariant-loop-part
invariant-loop-part l = string_bytes l.out ≡ string_bytes l.initial.out ++ flat_map (part_line l.images l.count) (range_with_len 0 l.part)
