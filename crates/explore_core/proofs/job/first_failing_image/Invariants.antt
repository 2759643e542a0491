use Rattle.std.proofs.Common.{◌≡◌, drop}
use Rattle.explore_core.specs.Jobs.{first_failing_image}
use Rattle.explore_core.proofs.job.first_failing_image.Given as goal

abbrev pub invariant-loop-job : goal.invariant-loop-job
invariant-loop-job l = first_failing_image (drop l.job-index l.jobs) ≡ first_failing_image l.jobs
