use Rattle.std.proofs.Common.{◌≡◌, ◌++◌, drop, string_bytes}
use Rattle.case_page.specs.CasePage.{run_of, programs_text}
use Rattle.case_page.proofs.cases_page.put_programs.Given as goal

abbrev pub invariant-loop-number : goal.invariant-loop-number
invariant-loop-number l =
    string_bytes l.out ++ programs_text (run_of l.run) l.found l.number (drop l.number l.programs) ≡ string_bytes l.initial.out ++ programs_text (run_of l.run) l.found 0 l.programs
