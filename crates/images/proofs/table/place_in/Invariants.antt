use Rattle.std.proofs.Common.{◌-◌}
use Rattle.images.proofs.Rows.{Narrows}
use Rattle.images.proofs.table.place_in.Given as goal

abbrev pub invariant-loop-first : goal.invariant-loop-first
invariant-loop-first l = Narrows l.units l.number l.low l.high l.first l.last

abbrev pub decreases-loop-first : goal.decreases-loop-first
decreases-loop-first l = l.last - l.first
