use Rattle.std.proofs.Common.{◌≡◌, ◌∷◌, [], length, refl, ◌∙◌, append_assoc, ap, arith}
use Rattle.std.specs.Vec.Iter.{into_iter_items}
use Rattle.case_runs.proofs.Stretching.{later_next}
use Rattle.case_runs.proofs.joining.put_after.Goals as goal

pub loop-case-preserved : goal.loop-case-preserved
loop-case-preserved c =
    let at = c.loop-case in
    let x = c.in-Some.case in
    let steps : into_iter_items at.case-iterator ≡ x ∷ into_iter_items c.next.new.self = c.in-Some.ensures.steps.0 in (
      append_assoc at.yielded (x ∷ []) _ ∙ rw (← steps) at.invariant.0,
      later_next c.args.leaves _ at.out.items c.push.new.self.items at.yielded x _ at.invariant.1 c.in_ok-push.ensures.items refl,
      let was = at.invariant.2 in
          let gone = c.in-Some.ensures.steps.1 in
          let short = ap length steps in
          omega arith,
    )
