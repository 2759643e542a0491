use Rattle.std.proofs.Common.{◌≡◌, ◌∷◌, [], length, ◌∙◌, append_assoc, ap, arith}
use Rattle.std.specs.Vec.Iter.{into_iter_items}
use Rattle.case_runs.proofs.Piecing.{open_next}
use Rattle.case_runs.proofs.pieces.pieces_of.Goals as goal

pub loop-sets-preserved : goal.loop-sets-preserved
loop-sets-preserved c =
    let at = c.loop-sets in
    let x = c.in-Some.sets in
    let steps : into_iter_items at.sets-iterator ≡ x ∷ into_iter_items c.next.new.self = c.in-Some.ensures.steps.0 in (
      append_assoc at.yielded (x ∷ []) _ ∙ rw (← steps) at.invariant.0,
      open_next _ at.pieces.items c.push-in-loop-sets.new.self.items at.yielded x at.invariant.1 c.in_ok-push-2.ensures.items,
      let was = at.invariant.2 in
          let gone = c.in-Some.ensures.steps.1 in
          let short = ap length steps in
          omega arith,
    )
