-- A seat and a hand may cross threads.
use denote.RattleType.{RattleType}
use denote.Param.Send.{IsSend, IsSync, sendable}
use Rattle.std.proofs.Crossing.{crosses}
use Rattle.atomic_table.proofs.shared.Seat.TheSendSync.{the_send}
use Rattle.atomic_blocks.proofs.rows.shared.Seat.TheSendSync as pass
use Rattle.atomic_blocks.proofs.rows.shared.Rows.TheSendSync as rows
use Rattle.shares.specs.contracts.board.Seat as Seat
use Rattle.shares.specs.contracts.hand.Hand as Hand
use Rattle.shares.specs.contracts.owned.Deque as Deque
use Rattle.shares.specs.contracts.owned.Other as Other

pub Seat-send : IsSend Seat.the_row
Seat-send = search (the_send, sendable, crosses) depth 40

Deque-send : (H : RattleType) (deal : _) → IsSend H → IsSend (Deque.the_row H deal)
Deque-send H deal s = search (pass.the_send, rows.the_send, rows.the_sync, sendable, crosses) depth 80 fits 100000

Other-send : (H : RattleType) (deal : _) → IsSend H → IsSend (Other.the_row H deal)
Other-send H deal s = search (pass.the_send, rows.the_send, rows.the_sync, sendable, crosses) depth 80 fits 100000

pub Hand-send : (H : RattleType) (deal : _) → IsSend H → IsSend (Hand.the_row H deal)
Hand-send H deal s = search (Deque-send, Other-send, sendable, crosses) depth 80 fits 100000
