-- What a worker comes back with.
use Rattle.std.proofs.Common.{Result, Ok, Err, IfOk}
use denote.Param.Send.{IsSend, sendable}
use Rattle.std.proofs.Crossing.{crosses}
use Rattle.case_runs.specs.contracts.pieces.Subtree as Piece
use Rattle.case_runs.specs.contracts.pieces.SubtreeAnswer as Answer

-- it may cross threads

Piece-send : IsSend Piece.the_row
Piece-send = search (sendable, crosses) depth 40 fits 100000

pub Answer-send : IsSend Answer.the_row
Answer-send = search (Piece-send, sendable, crosses) depth 40 fits 100000

pub ok_both : {V E : Type 0} (r : Result V E) (P Q R : V → Type 0) → IfOk r P → IfOk r Q → ((v : V) → P v → Q v → R v) → IfOk r R
ok_both (Ok v) P Q R h g f = f v h g
ok_both (Err e) P Q R h g f = tt
