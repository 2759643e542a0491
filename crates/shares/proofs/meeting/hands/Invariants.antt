use Rattle.std.proofs.Common.{◌≡◌, ◌-◌, ◌++◌, length, map}
use Rattle.std.specs.Vec.Iter.{into_iter_items, into_iter_len}
use Rattle.shares.specs.Owned.{DequeValue}
use Rattle.shares.specs.Meeting.{stealer_lists, AreMet}
use Rattle.shares.proofs.meeting.hands.Given as goal

abbrev pub invariant-loop-deque : goal.invariant-loop-deque
invariant-loop-deque g l = (l.yielded ++ into_iter_items l.deque-iterator ≡ into_iter_items l.initial.deque-iterator)
    × AreMet (map (λ (d : DequeValue). d.name) (into_iter_items l.initial.deque-iterator)) l.hands.items
    × (length l.hands.items ≡ length l.yielded)
    × (map (λ v. v.items) l.others.items ≡ stealer_lists (map (λ (d : DequeValue). d.name) (into_iter_items l.initial.deque-iterator)) (length (into_iter_items l.initial.deque-iterator) - length l.yielded))
    × (into_iter_len l.deque-iterator ≡ length (into_iter_items l.deque-iterator))
    × (length l.others.items ≡ into_iter_len l.deque-iterator)
