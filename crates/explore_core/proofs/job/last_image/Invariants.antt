use Rattle.std.proofs.Common.{◌≡◌, drop}
use Rattle.explore_core.specs.Agreement.{last_image}
use Rattle.explore_core.proofs.job.last_image.Given as goal

abbrev pub invariant-loop-job : goal.invariant-loop-job
invariant-loop-job l = last_image l.last (drop l.job-index l.jobs) ≡ last_image l.before l.jobs
