use Rattle.std.proofs.Common.{◌≡◌, ◌*◌, length}
use Rattle.plain.specs.Kept.{IsKept, AreZeros}
use Rattle.plain.proofs.own.clear_written.Given as goal

abbrev pub invariant-pieces : goal.invariant-pieces
invariant-pieces l = (length l.written ≡ 64) × (length l.bytes ≡ 65536) × IsKept l.bytes l.written l.end × AreZeros l.bytes (1024 * l.piece)
