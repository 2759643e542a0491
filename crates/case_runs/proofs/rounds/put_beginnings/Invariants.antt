use Rattle.std.proofs.Common.{All}
use Rattle.case_runs.specs.Shares.{IsBegun}
use Rattle.case_runs.proofs.rounds.put_beginnings.Given as goal

abbrev pub invariant-loop-program : goal.invariant-loop-program
invariant-loop-program l = All (IsBegun l.work) l.out.items
