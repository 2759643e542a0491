use Rattle.std.proofs.Common.{◌≡◌, take}
use Rattle.case_page.specs.CasePage.{run_of}
use Rattle.case_page.specs.CaseFlushes.{failures_of}
use Rattle.case_page.proofs.case_program.failures_of.Given as goal

abbrev pub invariant-loop-cut : goal.invariant-loop-cut
invariant-loop-cut l = l.failures.items ≡ failures_of (run_of l.run) l.program (take l.cut-index l.found)
