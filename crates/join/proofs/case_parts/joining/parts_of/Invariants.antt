use Rattle.std.proofs.Common.{map, take}
use Rattle.join.specs.CaseJoining.{AreCasesParts}
use Rattle.join.proofs.case_parts.joining.parts_of.Given as goal

abbrev pub invariant-loop-number : goal.invariant-loop-number
invariant-loop-number l = AreCasesParts 0 (take l.number (map (λ f. f.items) l.files)) l.parts.items
