use Rattle.std.proofs.Common.{◌≡◌, ◌*◌, ◌++◌, take, drop}
use Rattle.lanes.proofs.splicing.splice.Given as goal

abbrev pub invariant-loop-row : goal.invariant-loop-row
invariant-loop-row l = l.spliced ≡ take (64 * l.row) l.new ++ drop (64 * l.row) l.old
