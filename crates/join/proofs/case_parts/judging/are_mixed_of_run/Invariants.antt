use Rattle.std.proofs.Common.{◌≡◌, true, map, take}
use Rattle.std.specs.List.{list_all}
use Rattle.join.specs.CaseTexts.{is_mixed_of_run}
use Rattle.join.specs.CaseReading.{mixed_value}
use Rattle.join.proofs.case_parts.judging.are_mixed_of_run.Given as goal

abbrev pub invariant-loop-one : goal.invariant-loop-one
invariant-loop-one l = list_all (is_mixed_of_run l.by l.tears l.cut) (map mixed_value (take l.one-index l.mixed)) ≡ true
