use Rattle.std.proofs.Common.{◌&&◌, not}
use Rattle.cases.specs.Rows.{shows}
use Rattle.cases.specs.Sets.{has, fate_at, IsSetOf}
use Rattle.cases.proofs.fates.hidden.Given as goal

abbrev pub invariant-loop-piece : goal.invariant-loop-piece
invariant-loop-piece l = IsSetOf (λ i. has l.pieces i && not (shows (fate_at l.first) l.part l.unit i)) l.piece l.hidden
