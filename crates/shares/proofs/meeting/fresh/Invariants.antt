use Rattle.std.proofs.Common.{◌≡◌, length, map}
use Rattle.shares.specs.Owned.{DequeValue}
use Rattle.shares.specs.Meeting.{empty_deque}
use Rattle.shares.proofs.meeting.fresh.Given as goal

abbrev pub invariant-loop-made : goal.invariant-loop-made
invariant-loop-made g l = (length l.deques.items ≡ l._made) × (l.deques.items ≡ map (empty_deque l.workers) (map (λ (d : DequeValue). d.name) l.deques.items))
