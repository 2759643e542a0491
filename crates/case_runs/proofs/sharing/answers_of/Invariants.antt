use Rattle.std.proofs.Common.{All}
use Rattle.case_runs.specs.Shares.{IsAnswer}
use Rattle.case_runs.proofs.sharing.answers_of.Given as goal

abbrev pub invariant-loop-turn : goal.invariant-loop-turn
invariant-loop-turn g l = All (IsAnswer l.work) l.hand.answers.items
