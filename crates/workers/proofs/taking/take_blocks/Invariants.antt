use Rattle.std.proofs.Common.{◌≡◌, []}
use Rattle.shares.specs.declared.deque.Phase.TheVariants.{Open}
use Rattle.workers.specs.Local.{IsLocal}
use Rattle.workers.specs.Taking.{HasTaken}
use Rattle.workers.proofs.taking.take_blocks.Given as goal

abbrev pub invariant-loop-turn : goal.invariant-loop-turn
invariant-loop-turn g l = HasTaken l.worker.input.now l.board.name l.seat l.hand [] l.pieces.items × IsLocal l.worker.input.now l.local × (l.hand.place ≡ l.initial.hand.place) × (l.hand.phase ≡ Open)
