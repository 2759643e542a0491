use Rattle.std.proofs.Common.{◌≡◌, ◌+◌, drop}
use Rattle.inspect.specs.CutLayout.{needed}
use Rattle.inspect.proofs.looks.cut_layout.needed.Given as goal

abbrev pub invariant-loop-count : goal.invariant-loop-count
invariant-loop-count l = needed l.fn.goal l.risks ≡ l.count + needed l.left (drop l.count l.risks)
