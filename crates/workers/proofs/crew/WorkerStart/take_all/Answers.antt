use Rattle.std.proofs.Common.{[]}
use Rattle.shares.specs.Seats.{HasEnded}
use Rattle.workers.specs.Taking.{HasTaken, IsSettled}
use Rattle.workers.proofs.Back.{ok_both}
use Rattle.workers.proofs.crew.WorkerStart.take_all.Goals as goal

pub returns : goal.returns
returns g c =
    let s = c.args.input.now in
    let name = c.args.board.now.name in
    let seat = c.pieces_taken-pieces.new.seat in
    let hand = c.pieces_taken-pieces.new.hand in (
      c.pieces_taken-pieces.ensures.place,
      ok_both c.pieces_taken-pieces.result (λ pieces. HasTaken s name seat hand [] pieces.items) (λ pieces. HasEnded seat × IsSettled hand) (λ pieces. HasTaken s name seat hand [] pieces.items × HasEnded seat × IsSettled hand)
          c.pieces_taken-pieces.ensures.pieces
          (ok_both c.pieces_taken-pieces.result (λ pieces. HasEnded seat) (λ pieces. IsSettled hand) (λ pieces. HasEnded seat × IsSettled hand) c.pieces_taken-pieces.ensures.ended c.pieces_taken-pieces.ensures.settled
          (λ pieces e d. (e, d)))
          (λ pieces h e. (h, e.0, e.1)),
    )
