use Rattle.std.proofs.Common.{◌++◌, ◌∙◌, ap}
use Rattle.join.specs.CaseReading.{CasesRead}
use Rattle.join.proofs.CaseJoins.{lines_more}
use Rattle.join.proofs.case_parts.joining.put_all.Goals as goal

pub loop-part-preserved : goal.loop-part-preserved
loop-part-preserved c =
    rw c.in_ok-extend_from_slice.ensures.items
    (ap (λ (r : CasesRead). c.loop-part.out.items ++ r.lines) c.part.view_is ∙ lines_more c.args.parts.now c.loop-part.part-index c.part-item.result _ _ c.loop-part.invariant c.loop-part-test.true c.part-item.is)
