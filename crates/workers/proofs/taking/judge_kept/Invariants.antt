use Rattle.std.proofs.Common.{◌≡◌, []}
use Rattle.shares.specs.declared.deque.Phase.TheVariants.{Closing}
use Rattle.shares.specs.Seats.{BoardName, SeatValue}
use Rattle.workers.specs.Local.{IsLocal}
use Rattle.workers.specs.Taking.{HasTaken}
use Rattle.workers.proofs.taking.judge_kept.Given as goal

abbrev pub invariant-loop-block : goal.invariant-loop-block
invariant-loop-block g l = (l.hand.phase ≡ Closing) × (l.hand.place ≡ l.initial.hand.place) × IsLocal l.worker.input.now l.local
    × ((board : BoardName) (seat : SeatValue) → HasTaken l.worker.input.now board seat l.initial.hand [] l.initial.pieces.items → HasTaken l.worker.input.now board seat l.hand [] l.pieces.items)

abbrev pub decreases-loop-block : goal.decreases-loop-block
decreases-loop-block g l = l.hand.kept
