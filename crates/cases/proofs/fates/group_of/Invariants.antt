use Rattle.std.proofs.Common.{◌&&◌}
use Rattle.cases.specs.Cases.{show_alike}
use Rattle.cases.specs.Sets.{has, fate_at, pieces_in, IsSetOf}
use Rattle.cases.proofs.fates.group_of.Given as goal

abbrev pub invariant-loop-number : goal.invariant-loop-number
invariant-loop-number l = IsSetOf (λ i. has l.set i && show_alike l.part l.unit (pieces_in l.pieces) (fate_at l.one) (fate_at i)) l.number l.group
