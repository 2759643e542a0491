use Rattle.std.proofs.Common.{◌%◌, ◌^◌}
use Rattle.lanes.specs.Rows.{HasLanes}
use Rattle.lanes.specs.Sector.{column}
use Rattle.lanes.proofs.mixing.columns.Given as goal

abbrev pub invariant-loop-row : goal.invariant-loop-row
invariant-loop-row l = HasLanes l.sums (λ lane. column l.sector lane l.row % 2 ^ 64)
