use Rattle.std.proofs.Common.{◌≡◌, ◌≤◌, length}
use Rattle.crash_text.specs.Sectors.{differences}
use Rattle.crash_text.proofs.sector.count_differences.Given as goal

abbrev pub invariant-loop-step : goal.invariant-loop-step
invariant-loop-step l = (l.found ≡ length (differences l.left l.right l.start l.step)) × (l.found ≤ l.step)
