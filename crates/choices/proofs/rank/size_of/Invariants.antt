use Rattle.std.proofs.Common.{◌≡◌, ◌+◌}
use Rattle.choices.specs.Ways.{ways_below}
use Rattle.choices.proofs.rank.size_of.Given as goal

abbrev pub invariant-loop-size : goal.invariant-loop-size
invariant-loop-size l = l.number ≡ ways_below l.fates l.size l.parts + l.rest
