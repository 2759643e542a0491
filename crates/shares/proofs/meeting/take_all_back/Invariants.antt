use Rattle.std.proofs.Common.{length, map}
use Rattle.shares.proofs.Reunion.{IsReuniting}
use Rattle.shares.proofs.meeting.take_all_back.Given as goal

abbrev pub invariant-loop-own : goal.invariant-loop-own
invariant-loop-own g l = IsReuniting l.initial.deques.items (map (λ v. v.items) l.initial.others.items) l.deques.items (map (λ v. v.items) l.others.items)

abbrev pub decreases-loop-own : goal.decreases-loop-own
decreases-loop-own g l = length l.others.items
