use Rattle.std.proofs.Common.{◌≡◌, ◌++◌, map, take}
use Rattle.workers.specs.Local.{IsLocal}
use Rattle.workers.specs.Pieces.{piece_of}
use Rattle.workers.proofs.settling.with_left.Given as goal

abbrev pub invariant-loop-block : goal.invariant-loop-block
invariant-loop-block g l = (l.pieces.items ≡ l.initial.pieces.items ++ map (piece_of l.input) (take l.block-index l.left)) × IsLocal l.input l.local
