use Rattle.std.proofs.Common.{◌*◌, take}
use Rattle.lanes.specs.Sector.{IsZero}
use Rattle.lanes.proofs.compare.is_zero.Given as goal

abbrev pub invariant-loop-row : goal.invariant-loop-row
invariant-loop-row l = IsZero (take (64 * l.row) l.sector)
