use Rattle.std.proofs.Common.{◌≡◌}
use Rattle.images.proofs.Entries.{units_up_to}
use Rattle.images.proofs.table.put_entry.Given as goal

abbrev pub invariant-loop-place : goal.invariant-loop-place
invariant-loop-place l = l.units.items ≡ units_up_to l.log.entries l.number l.entry l.place
