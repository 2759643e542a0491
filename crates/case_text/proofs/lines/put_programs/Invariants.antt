use Rattle.std.proofs.Common.{◌≡◌, ◌++◌, take, string_bytes}
use Rattle.case_text.specs.Text.{programs_cases}
use Rattle.case_text.proofs.lines.put_programs.Given as goal

abbrev pub invariant-loop-number : goal.invariant-loop-number
invariant-loop-number l = string_bytes l.out ≡ string_bytes l.initial.out ++ programs_cases l.fn.site.at l.fn.site.tears 0 (take l.number l.programs)
