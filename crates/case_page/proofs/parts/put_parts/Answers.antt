use Rattle.case_page.proofs.CaseTexts.{parts_more}
use Rattle.case_page.proofs.parts.put_parts.Goals as goal

pub loop-number-preserved : goal.loop-number-preserved
loop-number-preserved c =
    parts_more c.args.row.now c.args.parts.now c.args.sets.now c.loop-number.number c.set_at.result _ c.loop-number.room c.put_next.new.room _ _ _ c.requires c.loop-number-test.true
    c.set_at.ensures c.loop-number.invariant c.in_ok-put_next.ensures.text c.in_ok-put_next.ensures.room
