use Rattle.std.proofs.Common.{◌≡◌, ◌*◌, ◌≤◌}
use Rattle.choices.specs.Ways.{ways_below}
use Rattle.choices.proofs.ways.ways_within.Given as goal

abbrev pub invariant-loop-size : goal.invariant-loop-size
invariant-loop-size l = (l.sum ≡ ways_below l.fates l.size l.parts) × (l.size ≤ 3 → l.sum ≤ l.size * 494779996569600) × (l.sum ≤ 5188140833369672908800)
