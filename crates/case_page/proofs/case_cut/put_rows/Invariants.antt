use Rattle.std.proofs.Common.{◌≡◌, ◌++◌, take, string_bytes}
use Rattle.case_page.specs.CasePage.{case_rows}
use Rattle.case_page.proofs.case_cut.put_rows.Given as goal

abbrev pub invariant-loop-case : goal.invariant-loop-case
invariant-loop-case l = string_bytes l.out ≡ string_bytes l.initial.out ++ case_rows l.fn.site.at l.fn.site.tears (take l.case-index l.failing)
