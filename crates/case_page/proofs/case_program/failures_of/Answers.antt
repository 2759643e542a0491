use Rattle.std.proofs.Common.{[], get_or}
use Rattle.std.proofs.lemmas.List.{take_more}
use Rattle.case_text.proofs.Curing.{lists_next}
use Rattle.case_page.specs.CasePage.{run_of}
use Rattle.case_page.specs.CaseFlushes.{failures_at}
use Rattle.case_page.proofs.case_program.failures_of.Goals as goal

pub loop-cut-preserved : goal.loop-cut-preserved
loop-cut-preserved c =
    let item = c.cut-item.result in
    lists_next (failures_at (run_of c.args.run.now) c.args.program) c.args.found.now c.loop-cut.cut-index (get_or c.args.found.now c.loop-cut.cut-index item) item [] _ _
    (take_more c.args.found.now c.loop-cut.cut-index item c.loop-cut-test.true) c.cut-item.is c.loop-cut.invariant c.in_ok-take_cut.ensures
