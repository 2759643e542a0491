use Rattle.soundness.proofs.Safe.{runs_safely}
use Rattle.soundness.proofs.accepted.accepted_runs_safely.Goals as goal

pub returns : goal.returns
returns c = runs_safely c.run_ends_within_budget.ensures c.faults_are_of_steps.ensures
