use Rattle.std.proofs.Common.{◌≡◌, ◌++◌, length, map, reverse, All}
use Rattle.std.specs.Vec.Iter.{into_iter_items, into_iter_len}
use Rattle.shares.specs.Hands.{HandValue, IsEmptyHand}
use Rattle.workers.proofs.crew.jobs_of.Given as goal

abbrev pub invariant-loop-seat : goal.invariant-loop-seat
invariant-loop-seat g l = (l.yielded ++ into_iter_items l.seat-iterator ≡ into_iter_items l.initial.seat-iterator)
    × (map (λ j. j.seat) l.jobs.items ≡ l.yielded)
    × All (λ j. IsEmptyHand j.hand) l.jobs.items
    × All IsEmptyHand l.hands.items
    × (length l.hands.items ≡ into_iter_len l.seat-iterator)
    × (into_iter_len l.seat-iterator ≡ length (into_iter_items l.seat-iterator))
    × (reverse (map (λ (h : HandValue). h.place) l.initial.hands.items) ≡ map (λ j. j.hand.place) l.jobs.items ++ reverse (map (λ (h : HandValue). h.place) l.hands.items))
