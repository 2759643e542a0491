use Rattle.std.proofs.Common.{◌≡◌, ◌*◌, take}
use Rattle.lanes.proofs.compare.same.Given as goal

abbrev pub invariant-loop-row : goal.invariant-loop-row
invariant-loop-row l = take (64 * l.row) l.left ≡ take (64 * l.row) l.right
