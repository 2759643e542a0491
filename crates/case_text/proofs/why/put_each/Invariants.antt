use Rattle.std.proofs.Common.{◌≡◌, ◌++◌, take, string_bytes}
use Rattle.case_text.specs.Why.{by_program, found_causes, found_failures}
use Rattle.case_text.proofs.why.put_each.Given as goal

abbrev pub invariant-loop-number : goal.invariant-loop-number
invariant-loop-number l =
    (string_bytes l.out ≡ string_bytes l.initial.out ++ by_program (found_causes l.fn.site.at l.fn.site.tears) 0 (take l.number l.programs))
    × (l.failures.items ≡ l.initial.failures.items ++ by_program (found_failures l.fn.site.at l.fn.site.tears) 0 (take l.number l.programs))
