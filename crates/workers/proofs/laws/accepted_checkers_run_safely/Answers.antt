use Rattle.workers.proofs.Safe.{accepted_run_safely}
use Rattle.workers.proofs.laws.accepted_checkers_run_safely.Goals as goal

pub returns : goal.returns
returns c = accepted_run_safely c.accepted_runs_safely.ensures c.guarded_runs_safely.ensures
