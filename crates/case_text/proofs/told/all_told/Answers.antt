use Rattle.case_text.proofs.Telling.{told_next}
use Rattle.case_text.proofs.told.all_told.Goals as goal

pub loop-case-preserved : goal.loop-case-preserved
loop-case-preserved c =
    told_next c.args.site.now.at c.args.site.now.tears c.args.failing.now c.loop-case.case-index c.case-item.result _ _ _ c.loop-case.invariant c.in_ok-push.ensures.items c.in_ok-told_of.ensures
    c.case-item.is c.loop-case-test.true
