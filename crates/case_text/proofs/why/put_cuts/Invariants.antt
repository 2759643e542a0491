use Rattle.std.proofs.Common.{◌≡◌, ◌++◌, take, string_bytes}
use Rattle.std.specs.List.{flat_map}
use Rattle.case_text.specs.Why.{cut_causes, all_failures}
use Rattle.case_text.proofs.why.put_cuts.Given as goal

abbrev pub invariant-loop-cut : goal.invariant-loop-cut
invariant-loop-cut l =
    (string_bytes l.out ≡ string_bytes l.initial.out ++ flat_map (cut_causes l.fn.log l.fn.by l.fn.tears) (take l.cut-index l.found))
    × (l.failures.items ≡ l.initial.failures.items ++ all_failures l.fn.log l.fn.by l.fn.tears (take l.cut-index l.found))
