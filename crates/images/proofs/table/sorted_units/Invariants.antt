use Rattle.std.proofs.Common.{◌≡◌}
use Rattle.epochs.specs.Units.{units_before}
use Rattle.images.proofs.table.sorted_units.Given as goal

abbrev pub invariant-loop-number : goal.invariant-loop-number
invariant-loop-number l = l.units.items ≡ units_before l.log.entries l.number
