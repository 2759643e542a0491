use Rattle.std.proofs.Common.{◌≡◌, ◌∷◌, List, length, sym, subst, ap, arith}
use Rattle.std.specs.Vec.Iter.{into_iter_items}
use Rattle.case_runs.specs.declared.pieces.Subtree.{Subtree}
use Rattle.case_runs.specs.Shares.{AreAllOf}
use Rattle.case_runs.proofs.Stretching.{none_left}
use Rattle.case_runs.proofs.Turning.{same_next, same_end}
use Rattle.case_runs.proofs.rounds.pieces_on.Goals as goal

pub loop-piece-preserved : goal.loop-piece-preserved
loop-piece-preserved c =
    let at = c.loop-piece in
    let x = c.in-Some.piece in
    let steps : into_iter_items at.piece-iterator ≡ x ∷ into_iter_items c.next.new.self = c.in-Some.ensures.steps.0 in (
      c.in_ok-put_piece.ensures.places,
      same_next c.args.work.now c.args.cut c.args.program _ at.out.items (into_iter_items at.piece-iterator) (into_iter_items c.next.new.self) c.put_piece.new.out.items x at.invariant.1 steps
          (c.in_ok-put_piece.ensures.same (into_iter_items c.next.new.self)),
      let was = at.invariant.2 in
          let gone = c.in-Some.ensures.steps.1 in
          let short = ap length steps in
          omega arith,
    )

pub returns-clause-pieces : goal.returns-clause-pieces
returns-clause-pieces c =
    let at = c.loop-piece in
    let work = c.args.work.now in
    same_end work c.args.cut c.args.program (into_iter_items c.into_iter-piece-iterator.result) at.out.items (into_iter_items at.piece-iterator) at.invariant.1
    (none_left (into_iter_items at.piece-iterator) _ at.invariant.2 c.in-None.ensures.steps.0)
    (subst (λ (ps : List Subtree). AreAllOf work c.args.cut c.args.program ps) (sym c.into_iter-piece-iterator.ensures.into_iter_gives.0) c.requires.pieces)
