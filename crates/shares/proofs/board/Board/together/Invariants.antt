use Rattle.std.proofs.Common.{◌≡◌, ◌++◌, [], length}
use Rattle.std.specs.Vec.Iter.{into_iter_items, into_iter_len}
use Rattle.shares.specs.Board.{view_of}
use Rattle.shares.specs.Seats.{all_steps}
use Rattle.shares.proofs.board.Board.together.Given as goal

abbrev pub invariant-loop-seat : goal.invariant-loop-seat
invariant-loop-seat l = (l.yielded ++ into_iter_items l.seat-iterator ≡ into_iter_items l.initial.seat-iterator)
    × (l.whole.table_id ≡ l.self.name.table)
    × (l.whole.me ≡ (view_of (length l.yielded) (all_steps l.yielded), []))
    × (into_iter_len l.seat-iterator ≡ length (into_iter_items l.seat-iterator))
