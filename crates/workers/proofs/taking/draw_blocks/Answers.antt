use Rattle.std.proofs.Common.{◌∙◌, arith}
use Rattle.workers.proofs.HandingOver.{drew_seen}
use Rattle.workers.proofs.Takes.{draws_one, draws_no_more, judges}
use Rattle.workers.proofs.taking.draw_blocks.Goals as goal

pub loop-block-preserved : goal.loop-block-preserved
loop-block-preserved g c =
    let at = c.loop-block in
    let (board, log, taken) = at.invariant in
    let name = c.args.board.now.name in (
      c.piece_through.ensures.board ∙ c.draw.ensures.board ∙ board,
      c.piece_through.ensures.local,
      λ hand h. rw c.in_ok-push.ensures.items
          (judges c.args.worker.now.input.now name c.draw.new.seat c.piece_through.new.seat hand c.in-Some.block at.pieces.items c.in_ok-piece.piece
          (draws_one c.args.worker.now.input.now name at.seat c.draw.new.seat hand c.in-Some.block at.pieces.items (taken hand h) c.draw.ensures.board c.in-Some.ensures.block.1 c.in-Some.ensures.taken)
          c.piece_through.ensures.board c.piece_through.ensures.taken c.in_ok-piece.ensures.added),
    )

pub loop-block-smaller : goal.loop-block-smaller
loop-block-smaller g c =
    let at = c.loop-block in
    let drew = drew_seen c.in-Some.block at.seat.steps c.draw.new.seat.steps c.in-Some.ensures.block.1 in
    omega (arith, c.in-Some.ensures.block.0, c.in-Some.ensures.rising, c.piece_through.ensures.seen, drew)

pub returns-clause-taken : goal.returns-clause-taken
returns-clause-taken g c = λ hand h.
    let at = c.loop-block in
    let (board, log, taken) = at.invariant in
    draws_no_more c.args.worker.now.input.now c.args.board.now.name at.seat c.draw.new.seat hand at.pieces.items (taken hand h) c.draw.ensures.board c.in_default.ensures.none c.in_default.ensures.none_taken
