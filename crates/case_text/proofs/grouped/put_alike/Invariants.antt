use Rattle.std.proofs.Common.{◌≡◌, ◌++◌, map, take, string_bytes}
use Rattle.std.specs.List.{flat_map}
use Rattle.case_text.specs.Collected.{told_value}
use Rattle.case_text.specs.Why.{also_if}
use Rattle.case_text.proofs.grouped.put_alike.Given as goal

abbrev pub invariant-loop-other : goal.invariant-loop-other
invariant-loop-other l = string_bytes l.out ≡ string_bytes l.initial.out ++ flat_map (also_if (told_value l.fn.one)) (map told_value (take l.other-index l.others))
