use Rattle.std.proofs.Common.{All}
use Rattle.case_runs.specs.Shares.{IsBegun}
use Rattle.case_runs.proofs.rounds.beginnings.Given as goal

abbrev pub invariant-loop-cut : goal.invariant-loop-cut
invariant-loop-cut l = All (IsBegun l.work) l.out.items
