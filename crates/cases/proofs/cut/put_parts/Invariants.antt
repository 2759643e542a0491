use Rattle.std.proofs.Common.{◌≡◌, ◌++◌, map}
use Rattle.std.specs.List.{range_with_len}
use Rattle.epochs.specs.Parts.{part_of}
use Rattle.cases.proofs.cut.put_parts.Given as goal

abbrev pub invariant-loop-place : goal.invariant-loop-place
invariant-loop-place l = l.parts.items ≡ l.initial.parts.items ++ map (part_of l.fn.way l.number l.entry) (range_with_len 0 l.place)
