use Rattle.run_jobs.proofs.Runs.{events_find}
use Rattle.run_jobs.proofs.laws.events_find_failing_lines.Goals as goal

pub returns : goal.returns
returns c = events_find c.runs_are_jobs.ensures c.whole_is_failing.ensures
