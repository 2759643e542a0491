use Rattle.std.proofs.Common.{◌≡◌, ◌++◌, length}
use Rattle.std.specs.Vec.Iter.{into_iter_items, into_iter_len}
use Rattle.workers.specs.Crew.{AreParted}
use Rattle.workers.proofs.crew.split_done.Given as goal

abbrev pub invariant-loop-one : goal.invariant-loop-one
invariant-loop-one g l = (l.yielded ++ into_iter_items l.one-iterator ≡ into_iter_items l.initial.one-iterator)
    × AreParted l.yielded l.seats.items l.hands.items l.pieces.items
    × (into_iter_len l.one-iterator ≡ length (into_iter_items l.one-iterator))
