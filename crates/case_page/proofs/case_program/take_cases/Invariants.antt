use Rattle.std.proofs.Common.{◌≡◌, ◌++◌, take}
use Rattle.case_text.specs.Why.{program_failures}
use Rattle.case_page.proofs.case_program.take_cases.Given as goal

abbrev pub invariant-loop-case : goal.invariant-loop-case
invariant-loop-case l = l.failures.items ≡ l.initial.failures.items ++ program_failures l.fn.site.at l.fn.site.tears 0 (take l.case-index l.failing)
