use Rattle.std.proofs.Common.{◌≡◌, None, not, ◌&&◌, slice_index_or, ◌∙◌, ap, arith}
use Rattle.cases.specs.Rows.{shows}
use Rattle.cases.specs.Sets.{has, fates_in}
use Rattle.cases.proofs.Numbered.{kept_pieces}
use Rattle.cases.proofs.fates.hidden.Goals as goal

pub returns-clause-pieces : goal.returns-clause-pieces
returns-clause-pieces c =
    let all : c.loop-piece.piece ≡ 8 = omega (arith, c.loop-piece.auto.piece-end, c.loop-piece-test.false) in
    let same = c.first_number-first.ensures.fate in
    kept_pieces c.args.pieces c.loop-piece.hidden (λ i. not (shows (slice_index_or (fates_in c.args.set) 0 None) c.args.part c.args.unit i))
    (λ i low. c.loop-piece.invariant.below i (omega (arith, low, all)) ∙ ap (λ f. has c.args.pieces i && not (shows f c.args.part c.args.unit i)) same)

pub returns-clause-each : goal.returns-clause-each
returns-clause-each c = λ i low.
    let all : c.loop-piece.piece ≡ 8 = omega (arith, c.loop-piece.auto.piece-end, c.loop-piece-test.false) in
    let same = c.first_number-first.ensures.fate in
    c.loop-piece.invariant.below i (omega (arith, low, all)) ∙ ap (λ f. has c.args.pieces i && not (shows f c.args.part c.args.unit i)) same
