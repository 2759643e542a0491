use Rattle.std.proofs.Common.{◌≡◌, ◌++◌, take, slice_get, string_bytes}
use Rattle.std.specs.Option.{option_map, option_or}
use Rattle.case_text.specs.Why.{program_failures}
use Rattle.case_text.specs.Cured.{program_uncured}
use Rattle.case_text.proofs.cured.take_program.Given as goal

abbrev pub invariant-loop-case : goal.invariant-loop-case
invariant-loop-case l =
    (l.failures.items ≡ l.initial.failures.items ++ program_failures l.fn.site.at l.fn.site.tears l.fn.program (take l.case-index l.failing))
    × (option_map string_bytes l.uncured ≡ option_or (option_map string_bytes l.initial.uncured) (slice_get (program_uncured l.fn.site.at l.fn.site.tears l.fn.program (take l.case-index l.failing)) 0))
