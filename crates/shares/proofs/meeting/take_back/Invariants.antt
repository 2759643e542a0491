use Rattle.std.proofs.Common.{◌≡◌, ◌++◌, length, drop}
use Rattle.std.specs.Vec.Iter.{into_iter_items, into_iter_len}
use Rattle.shares.specs.Meeting.{deques_with}
use Rattle.shares.proofs.meeting.take_back.Given as goal

abbrev pub invariant-loop-other : goal.invariant-loop-other
invariant-loop-other g l = (l.yielded ++ into_iter_items l.other-iterator ≡ into_iter_items l.initial.other-iterator)
    × (l.place ≡ length l.yielded)
    × (l.deques.items ≡ deques_with l.initial.deques.items l.yielded ++ drop (length l.yielded) l.initial.deques.items)
    × (into_iter_len l.other-iterator ≡ length (into_iter_items l.other-iterator))
