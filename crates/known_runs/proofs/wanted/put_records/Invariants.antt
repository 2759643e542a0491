use Rattle.std.proofs.Common.{◌≡◌, ◌++◌, map, take}
use Rattle.std.specs.List.{flat_map}
use Rattle.images.specs.Keys.{with_content}
use Rattle.images.specs.Views.{sectors_of}
use Rattle.export.specs.Export.{record_text}
use Rattle.known_runs.proofs.wanted.put_records.Given as goal

abbrev pub invariant-loop-number : goal.invariant-loop-number
invariant-loop-number l = l.out.items ≡ l.initial.out.items ++ flat_map record_text (map (with_content (sectors_of l.fn.image)) (take l.number-index l.numbers))
