use Rattle.std.proofs.Common.{All, length}
use Rattle.case_runs.specs.Shares.{IsBegun}
use Rattle.case_runs.proofs.joining.reversed.Given as goal

abbrev pub invariant-turning : goal.invariant-turning
invariant-turning l = All (IsBegun l.work) l.begun.items × All (IsBegun l.work) l.out.items

abbrev pub decreases-turning : goal.decreases-turning
decreases-turning l = length l.begun.items
