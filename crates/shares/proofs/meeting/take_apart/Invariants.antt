use Rattle.std.proofs.Common.{◌≡◌, ◌<◌, ◌++◌, ℕ, All, length, map}
use Rattle.std.specs.Vec.Iter.{into_iter_items, into_iter_len}
use Rattle.shares.specs.Meeting.{AreApart}
use Rattle.shares.proofs.meeting.take_apart.Given as goal

abbrev pub invariant-loop-hand : goal.invariant-loop-hand
invariant-loop-hand g l = (l.yielded ++ into_iter_items l.hand-iterator ≡ into_iter_items l.initial.hand-iterator)
    × AreApart l.yielded l.left.items l.deques.items (map (λ v. v.items) l.others.items)
    × All (λ (b : ℕ). b < g.H.Deal.blocks) l.left.items
    × (into_iter_len l.hand-iterator ≡ length (into_iter_items l.hand-iterator))
