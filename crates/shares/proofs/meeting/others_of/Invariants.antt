use Rattle.std.proofs.Common.{◌≡◌, ◌-◌, ◌++◌, length, map, take, drop}
use Rattle.shares.specs.Owned.{DequeValue}
use Rattle.shares.specs.Meeting.{new_other, with_less}
use Rattle.shares.proofs.meeting.others_of.Given as goal

abbrev pub invariant-loop-place : goal.invariant-loop-place
invariant-loop-place g l = (l.count ≡ length l.initial.deques.items - 1)
    × (l.deques.items ≡ map with_less (take l.place l.initial.deques.items) ++ drop l.place l.initial.deques.items)
    × (l.others.items ≡ map (λ (d : DequeValue). new_other d.name) (take l.place l.initial.deques.items))
