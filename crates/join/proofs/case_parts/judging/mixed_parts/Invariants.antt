use Rattle.std.proofs.Common.{◌≡◌, map, take}
use Rattle.join.specs.CaseTexts.{mixed_parts}
use Rattle.join.specs.CaseReading.{mixed_value}
use Rattle.join.proofs.case_parts.judging.mixed_parts.Given as goal

abbrev pub invariant-loop-one : goal.invariant-loop-one
invariant-loop-one l = l.parts.items ≡ mixed_parts (map mixed_value (take l.one-index l.mixed))
