use Rattle.std.proofs.Common.{◌≡◌, ◌++◌, drop, string_bytes}
use Rattle.case_page.specs.CasePage.{run_of, cuts_text}
use Rattle.case_page.proofs.case_cut.put_cuts.Given as goal

abbrev pub invariant-loop-cut : goal.invariant-loop-cut
invariant-loop-cut l =
    string_bytes l.out ++ cuts_text (run_of l.run) l.program l.lines l.left (drop l.cut-index l.found)
    ≡ string_bytes l.initial.out ++ cuts_text (run_of l.run) l.program 1000 l.most l.found
