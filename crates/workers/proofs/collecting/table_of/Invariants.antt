use Rattle.std.proofs.Common.{◌≡◌, ◌++◌, length}
use Rattle.std.specs.Vec.Iter.{into_iter_items, into_iter_len}
use Rattle.workers.specs.Table.{AreRows}
use Rattle.workers.proofs.collecting.table_of.Given as goal

abbrev pub invariant-loop-piece : goal.invariant-loop-piece
invariant-loop-piece l = (l.yielded ++ into_iter_items l.piece-iterator ≡ into_iter_items l.initial.piece-iterator)
    × AreRows l.yielded l.fn.blocks l.table.rows.items l.table.twice l.table.least
    × (into_iter_len l.piece-iterator ≡ length (into_iter_items l.piece-iterator))
