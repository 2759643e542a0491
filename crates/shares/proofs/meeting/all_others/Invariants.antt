use Rattle.std.proofs.Common.{◌≡◌, length, map}
use Rattle.shares.specs.Owned.{DequeValue}
use Rattle.shares.proofs.Reunion.{IsDealing}
use Rattle.shares.proofs.meeting.all_others.Given as goal

abbrev pub invariant-loop-hand : goal.invariant-loop-hand
invariant-loop-hand g l = (l.count ≡ length l.initial.deques.items)
    × IsDealing (map (λ (d : DequeValue). d.name) l.initial.deques.items) l._hand l.deques.items (map (λ v. v.items) l.others.items)
