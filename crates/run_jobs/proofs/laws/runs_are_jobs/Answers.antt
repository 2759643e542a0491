use Rattle.run_jobs.proofs.Runs.{runs_are_jobs}
use Rattle.run_jobs.proofs.laws.runs_are_jobs.Goals as goal

pub returns : goal.returns
returns c = runs_are_jobs c.one_image_tells.ensures
