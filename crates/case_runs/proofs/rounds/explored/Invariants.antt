use Rattle.std.proofs.Common.{All}
use Rattle.case_runs.specs.Shares.{IsBegun}
use Rattle.case_runs.proofs.rounds.explored.Given as goal

abbrev pub invariant-loop-round : goal.invariant-loop-round
invariant-loop-round g l = All (IsBegun l.work) l.begun.items
