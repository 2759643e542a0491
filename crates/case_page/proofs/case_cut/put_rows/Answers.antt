use Rattle.std.proofs.Common.{get_or}
use Rattle.std.proofs.lemmas.List.{take_more}
use Rattle.case_page.proofs.CaseTexts.{rows_next}
use Rattle.case_page.proofs.case_cut.put_rows.Goals as goal

pub loop-case-preserved : goal.loop-case-preserved
loop-case-preserved c =
    let item = c.case-item.result in
    rows_next c.args.site.now.at c.args.site.now.tears c.args.failing.now c.loop-case.case-index (get_or c.args.failing.now c.loop-case.case-index item) item _ _ _
    (take_more c.args.failing.now c.loop-case.case-index item c.loop-case-test.true) c.case-item.is c.loop-case.invariant c.in_ok-put_case.ensures
