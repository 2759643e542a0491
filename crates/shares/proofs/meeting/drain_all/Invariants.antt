use Rattle.std.proofs.Common.{◌≡◌, ◌++◌, length}
use Rattle.std.specs.Vec.Iter.{into_iter_items, into_iter_len}
use Rattle.shares.specs.Meeting.{AddsAllLeft}
use Rattle.shares.proofs.meeting.drain_all.Given as goal

abbrev pub invariant-loop-deque : goal.invariant-loop-deque
invariant-loop-deque g l = (l.yielded ++ into_iter_items l.deque-iterator ≡ into_iter_items l.initial.deque-iterator)
    × AddsAllLeft g.H.Deal.blocks l.yielded l.initial.left.items l.left.items
    × (into_iter_len l.deque-iterator ≡ length (into_iter_items l.deque-iterator))
