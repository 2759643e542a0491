use Rattle.std.proofs.Common.{◌≡◌, ◌++◌, take, slice_get, string_bytes}
use Rattle.std.specs.Option.{option_map, option_or}
use Rattle.case_text.specs.Why.{by_program, found_failures}
use Rattle.case_text.specs.Cured.{found_uncured}
use Rattle.case_text.proofs.cured.take_each.Given as goal

abbrev pub invariant-loop-number : goal.invariant-loop-number
invariant-loop-number l =
    (l.failures.items ≡ l.initial.failures.items ++ by_program (found_failures l.fn.site.at l.fn.site.tears) 0 (take l.number l.programs))
    × (option_map string_bytes l.uncured ≡ option_or (option_map string_bytes l.initial.uncured) (slice_get (by_program (found_uncured l.fn.site.at l.fn.site.tears) 0 (take l.number l.programs)) 0))
