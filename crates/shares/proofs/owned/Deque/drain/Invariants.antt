use Rattle.std.proofs.Common.{◌-◌, length}
use Rattle.shares.proofs.Deques.{IsDraining}
use Rattle.shares.proofs.owned.Deque.drain.Given as goal

abbrev pub invariant-loop-block : goal.invariant-loop-block
invariant-loop-block g l = IsDraining g.H.Deal.blocks l.initial.self l.initial.left.items l.self l.left.items

abbrev pub decreases-loop-block : goal.decreases-loop-block
decreases-loop-block g l = length l.self.pushed - length l.self.got
