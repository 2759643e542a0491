use Rattle.std.proofs.Common.{◌≡◌, ◌++◌, map, take}
use Rattle.known.specs.declared.found.OpenCase.{OpenCase}
use Rattle.known_runs.specs.Wanted.{wanted_view, wanted_case}
use Rattle.known_runs.proofs.wanted.push_cases.Given as goal

abbrev pub invariant-loop-case : goal.invariant-loop-case
invariant-loop-case l =
    l.images.items ≡ l.initial.images.items ++ map (λ (o : OpenCase). wanted_view l.fn.log l.fn.by (wanted_case l.fn.log l.fn.by l.fn.tears l.fn.cut o.sets.items)) (take l.case-index l.cases)
