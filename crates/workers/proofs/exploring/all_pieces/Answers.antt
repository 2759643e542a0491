use Rattle.std.proofs.Common.{rules, ◌≡◌, [], append-nil, sym, ◌∙◌, ◌++◌, map, ap, arith}
use Rattle.shares.specs.Seats.{all_steps}
use Rattle.workers.specs.Pieces.{piece_of}
use Rattle.workers.proofs.Settled.{whole_run}
use Rattle.workers.proofs.exploring.all_pieces.Goals as goal

pub returns-in-Ok-with_left-clause-pieces : goal.returns-in-Ok-with_left-clause-pieces
returns-in-Ok-with_left-clause-pieces g c =
    let s = c.args.input.now in
    let back = c.in-Ok.ensures.back in
    let pieces = c.in-Ok.back.pieces.items in
    whole_run s (all_steps c.in-Ok.back.seats.items) pieces c.in-Ok-with_left.pieces.items c.in-Ok.back.left.items back.few back.pieces_are c.in_default.ensures.seen_posted
    (λ b lt. back.together b ∙ c.in_default.ensures.taken.once b (omega (arith, lt, back.blocks))) back.left_below (c.in-Ok-with_left.ensures ∙ ap (λ l. pieces ++ map (piece_of s) l) c.as_slice.ensures.value)

pub returns-then-not-refused-clause-pieces : goal.returns-then-not-refused-clause-pieces
returns-then-not-refused-clause-pieces g c =
    let s = c.args.input.now in
    let back = c.in-Ok.ensures.back in
    let pieces = c.in-Ok.back.pieces.items in
    let none : c.in-Ok.back.left.items ≡ [] = c.in-Ok.ensures.none_left (search rules) in
    whole_run s (all_steps c.in-Ok.back.seats.items) pieces pieces c.in-Ok.back.left.items back.few back.pieces_are c.in_default.ensures.seen_posted
    (λ b lt. back.together b ∙ c.in_default.ensures.taken.once b (omega (arith, lt, back.blocks))) back.left_below (sym (append-nil pieces) ∙ ap (λ l. pieces ++ map (piece_of s) l) (sym none))
