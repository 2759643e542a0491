use Rattle.case_page.proofs.CaseFlushes.{none_taken}
use Rattle.case_page.specs.CasePage.{run_of}
use Rattle.case_page.proofs.case_program.take_cut.Goals as goal

pub returns-then-is_empty : goal.returns-then-is_empty
returns-then-is_empty c =
    none_taken (run_of c.args.run.now) c.args.program c.args.found.now c.failing_of-failing.result.now c.args.failures.now.items c.failing_of-failing.ensures c.if-is_empty.ensures
