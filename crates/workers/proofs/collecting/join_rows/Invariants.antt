use Rattle.std.proofs.Common.{◌≡◌, ◌++◌, length}
use Rattle.std.specs.List.{flat_map}
use Rattle.std.specs.Vec.Iter.{into_iter_items, into_iter_len}
use Rattle.workers.specs.Table.{row_lines}
use Rattle.workers.proofs.collecting.join_rows.Given as goal

abbrev pub invariant-loop-row : goal.invariant-loop-row
invariant-loop-row l = (l.yielded ++ into_iter_items l.row-iterator ≡ into_iter_items l.initial.row-iterator)
    × (l.all ≡ flat_map row_lines l.yielded)
    × (into_iter_len l.row-iterator ≡ length (into_iter_items l.row-iterator))
