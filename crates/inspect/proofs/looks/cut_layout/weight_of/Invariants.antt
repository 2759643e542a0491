use Rattle.std.proofs.Common.{◌≡◌, ◌≤◌, ◌*◌, sum_by, take}
use Rattle.inspect.specs.CutLayout.{weight}
use Rattle.inspect.proofs.looks.cut_layout.weight_of.Given as goal

abbrev pub invariant-loop-risk : goal.invariant-loop-risk
invariant-loop-risk l = (l.sum ≡ sum_by weight (take l.risk-index l.risks)) × (l.sum ≤ l.risk-index * 4294967296)
