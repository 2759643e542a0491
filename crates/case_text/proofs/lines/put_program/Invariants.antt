use Rattle.std.proofs.Common.{◌≡◌, ◌++◌, take, string_bytes}
use Rattle.case_text.specs.Text.{program_cases}
use Rattle.case_text.proofs.lines.put_program.Given as goal

abbrev pub invariant-loop-case : goal.invariant-loop-case
invariant-loop-case l = string_bytes l.out ≡ string_bytes l.initial.out ++ program_cases l.fn.site.at l.fn.site.tears l.fn.program (take l.case-index l.failing)
