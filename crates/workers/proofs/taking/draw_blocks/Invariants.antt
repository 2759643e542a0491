use Rattle.std.proofs.Common.{◌≡◌, ◌-◌, []}
use Rattle.shares.specs.Hands.{HandValue}
use Rattle.shares.specs.Steps.{next_seen}
use Rattle.workers.specs.Local.{IsLocal}
use Rattle.workers.specs.Taking.{HasTaken}
use Rattle.workers.proofs.taking.draw_blocks.Given as goal

abbrev pub invariant-loop-block : goal.invariant-loop-block
invariant-loop-block g l = (l.seat.board ≡ l.board.name) × IsLocal l.worker.input.now l.local
    × ((hand : HandValue) → HasTaken l.worker.input.now l.board.name l.initial.seat hand [] l.initial.pieces.items → HasTaken l.worker.input.now l.board.name l.seat hand [] l.pieces.items)

abbrev pub decreases-loop-block : goal.decreases-loop-block
decreases-loop-block g l = l.board.name.blocks - next_seen l.seat.steps
