use Rattle.std.proofs.Common.{◌≡◌, ◌++◌, take}
use Rattle.std.specs.List.{flat_map}
use Rattle.join.specs.CaseReading.{CasesRead}
use Rattle.join.proofs.case_parts.joining.put_all.Given as goal

abbrev pub invariant-loop-part : goal.invariant-loop-part
invariant-loop-part l = l.out.items ≡ l.initial.out.items ++ flat_map (λ (r : CasesRead). r.lines) (take l.part-index l.parts)
