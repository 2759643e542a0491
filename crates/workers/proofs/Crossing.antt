-- What a worker comes back with may cross threads.
use denote.RattleType.{RattleType}
use denote.Param.Send.{IsSend, sendable}
use Rattle.std.proofs.Crossing.{crosses}
use Rattle.report.proofs.Crossing.{Part-send}
use Rattle.shares.proofs.Crossing.{Seat-send, Hand-send}
use Rattle.workers.specs.contracts.piece.Piece as Piece
use Rattle.workers.specs.contracts.crew.Done as Done

Piece-send : IsSend Piece.the_row
Piece-send = search (Part-send, sendable, crosses) depth 40

pub Done-send : (H : RattleType) (deal : _) → IsSend H → IsSend (Done.the_row H deal)
Done-send H deal s = search (Seat-send, Hand-send, Piece-send, sendable, crosses) depth 40 fits 100000
