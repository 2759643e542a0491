use Rattle.std.proofs.Common.{◌≡◌, drop}
use Rattle.explore_core.specs.Jobs.{lies_after}
use Rattle.explore_core.proofs.job.lies_after.Given as goal

abbrev pub invariant-loop-job : goal.invariant-loop-job
invariant-loop-job l = lies_after l.image (drop l.job-index l.jobs) ≡ lies_after l.image l.jobs
