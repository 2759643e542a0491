use Rattle.std.proofs.Common.{◌≡◌, map, take}
use Rattle.losses.specs.Folded.{lost_or_torn}
use Rattle.losses.proofs.groups.folding.folded_numbers.Given as goal

abbrev pub invariant-loop-number : goal.invariant-loop-number
invariant-loop-number l = l.folded.items ≡ map lost_or_torn (take l.number-index l.numbers)
