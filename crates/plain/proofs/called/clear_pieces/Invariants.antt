use Rattle.std.proofs.Common.{◌≡◌, ◌-◌, length}
use Rattle.plain.specs.Clean.{IsClean}
use Rattle.plain.proofs.called.clear_pieces.Given as goal

abbrev pub invariant-loop-piece : goal.invariant-loop-piece
invariant-loop-piece l = IsClean l.stack l.piece × (length l.stack ≡ 512)

abbrev pub decreases-loop-piece : goal.decreases-loop-piece
decreases-loop-piece l = 8 - l.piece
