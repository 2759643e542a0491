use Rattle.std.proofs.Common.{◌≡◌, ◌++◌, map, take}
use Rattle.case_text.specs.Collected.{told_value}
use Rattle.case_text.specs.Why.{failure_of}
use Rattle.case_text.proofs.told.push_failures.Given as goal

abbrev pub invariant-loop-one : goal.invariant-loop-one
invariant-loop-one l = l.failures.items ≡ l.initial.failures.items ++ map (failure_of l.program) (map told_value (take l.one-index l.told))
