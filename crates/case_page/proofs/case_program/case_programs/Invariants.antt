use Rattle.case_page.specs.CasePage.{run_of}
use Rattle.case_page.specs.CaseFlushes.{AreLacking}
use Rattle.case_page.proofs.case_program.case_programs.Given as goal

abbrev pub invariant-loop-program : goal.invariant-loop-program
invariant-loop-program l = AreLacking (run_of l.run) l.found l.heads l.program l.programs.items
