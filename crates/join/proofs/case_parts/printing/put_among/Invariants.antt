use Rattle.std.proofs.Common.{◌≡◌, ◌++◌, map, take, string_bytes}
use Rattle.std.specs.List.{flat_map}
use Rattle.join.specs.CaseTexts.{next_mixed}
use Rattle.join.specs.CaseReading.{mixed_value}
use Rattle.join.proofs.case_parts.printing.put_among.Given as goal

abbrev pub invariant-loop-other : goal.invariant-loop-other
invariant-loop-other l = string_bytes l.out ≡ string_bytes l.initial.out ++ flat_map (next_mixed l.by) (map mixed_value (take l.other-index l.rest))
