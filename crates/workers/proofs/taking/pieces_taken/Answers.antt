use Rattle.workers.proofs.taking.pieces_taken.Goals as goal

pub returns-clause-pieces : goal.returns-clause-pieces
returns-clause-pieces g c =
    c.in_ok-close_hand.ensures.taken c.args.board.now.name c.draw_blocks.new.seat (c.in_ok-draw_blocks.ensures.taken c.take_blocks.new.hand c.in_ok-pieces.ensures.taken)
