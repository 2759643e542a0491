use Rattle.std.proofs.Common.{◌≡◌, ◌/◌, ◌++◌, string_bytes}
use Rattle.std.specs.List.{flat_map, range_with_len}
use Rattle.crash_text.specs.Sectors.{row_difference}
use Rattle.crash_text.proofs.sector.put_rows.Given as goal

abbrev pub invariant-loop-step : goal.invariant-loop-step
invariant-loop-step l = string_bytes l.out ≡ string_bytes l.initial.out ++ flat_map (row_difference l.sector l.left l.right) (range_with_len (l.first / 16) l.step)
