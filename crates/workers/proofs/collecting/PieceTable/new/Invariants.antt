use Rattle.std.proofs.Common.{◌≡◌, replicate, Option, None}
use Rattle.workers.specs.Pieces.{PieceValue}
use Rattle.workers.proofs.collecting.PieceTable.new.Given as goal

abbrev pub invariant-loop-block : goal.invariant-loop-block
invariant-loop-block l = l.rows.items ≡ replicate {A = Option PieceValue} l._block None
