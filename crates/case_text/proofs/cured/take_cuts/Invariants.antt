use Rattle.std.proofs.Common.{◌≡◌, ◌++◌, take, slice_get, string_bytes}
use Rattle.std.specs.Option.{option_map, option_or}
use Rattle.case_text.specs.Why.{all_failures}
use Rattle.case_text.specs.Cured.{all_uncured}
use Rattle.case_text.proofs.cured.take_cuts.Given as goal

abbrev pub invariant-loop-cut : goal.invariant-loop-cut
invariant-loop-cut l =
    (l.failures.items ≡ l.initial.failures.items ++ all_failures l.fn.log l.fn.by l.fn.tears (take l.cut-index l.found))
    × (option_map string_bytes l.uncured ≡ option_or (option_map string_bytes l.initial.uncured) (slice_get (all_uncured l.fn.log l.fn.by l.fn.tears (take l.cut-index l.found)) 0))
