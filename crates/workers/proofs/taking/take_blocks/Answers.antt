use Rattle.std.proofs.Common.{◌≡◌, ◌∙◌, [], ◌∷◌, refl, ap}
use Rattle.shares.specs.Hands.{HandValue}
use Rattle.workers.proofs.Takes.{none_taken, takes, judges}
use Rattle.workers.proofs.taking.take_blocks.Goals as goal

pub returns-in_default-clause-taken : goal.returns-in_default-clause-taken
returns-in_default-clause-taken g c =
    let at = c.loop-turn in
    takes c.args.worker.now.input.now c.args.board.now.name at.seat c.take.new.seat at.hand c.take.new.self [] at.pieces.items at.invariant.0 c.take.ensures.board c.in_default.ensures.taken

pub loop-turn-preserved : goal.loop-turn-preserved
loop-turn-preserved g c =
    let at = c.loop-turn in
    let s = c.args.worker.now.input.now in
    let name = c.args.board.now.name in
    let block = c.in-Some.block in (
      rw c.in_ok-push.ensures.items
          (judges s name c.take.new.seat c.piece_through.new.seat c.take.new.self block at.pieces.items c.in_ok-piece.piece
          (takes s name at.seat c.take.new.seat at.hand c.take.new.self (block ∷ []) at.pieces.items at.invariant.0 c.take.ensures.board c.in-Some.ensures.taken) c.piece_through.ensures.board c.piece_through.ensures.taken
          c.in_ok-piece.ensures.added),
      c.piece_through.ensures.local,
      c.take.ensures.place ∙ at.invariant.2,
      c.take.ensures.phase ∙ at.invariant.3,
    )

pub loop-turn-init : goal.loop-turn-init
loop-turn-init g c =
    let none : c.new-pieces.result.items ≡ [] = c.new-pieces.ensures.items in
    (rw (← c.requires.board, none) (none_taken c.args.worker.now.input.now c.args.seat.now c.args.hand.now c.requires.fresh.0 c.requires.fresh.1), c.requires.local, refl, ap (λ (h : HandValue). h.phase) c.requires.fresh.1)
