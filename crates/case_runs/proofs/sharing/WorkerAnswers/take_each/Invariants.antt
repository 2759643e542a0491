use Rattle.std.proofs.Common.{All}
use Rattle.case_runs.specs.Pieces.{IsSearchOf}
use Rattle.case_runs.specs.Shares.{IsAnswer}
use Rattle.case_runs.proofs.sharing.WorkerAnswers.take_each.Given as goal

abbrev pub invariant-loop-turn : goal.invariant-loop-turn
invariant-loop-turn g l = All (IsAnswer l.work) l.self.answers.items × IsSearchOf l.work.asked l.cut l.search
