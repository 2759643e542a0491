use Rattle.std.proofs.Common.{map, take}
use Rattle.join.specs.Joining.{ArePartTexts}
use Rattle.join.proofs.joining.parts_of.Given as goal

abbrev pub invariant-loop-number : goal.invariant-loop-number
invariant-loop-number l = ArePartTexts 0 (take l.number (map (λ f. f.items) l.files)) l.parts.items
