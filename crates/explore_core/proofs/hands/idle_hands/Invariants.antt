use Rattle.std.proofs.Common.{◌≡◌, replicate}
use Rattle.explore_core.specs.declared.hand.WorkerHand.TheVariants.{Idle}
use Rattle.explore_core.proofs.hands.idle_hands.Given as goal

abbrev pub invariant-loop-worker : goal.invariant-loop-worker
invariant-loop-worker l = l.hands.items ≡ replicate l._worker Idle
