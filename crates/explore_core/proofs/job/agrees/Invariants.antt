use Rattle.std.proofs.Common.{◌≡◌, drop}
use Rattle.explore_core.specs.Agreement.{agrees}
use Rattle.explore_core.proofs.job.agrees.Given as goal

abbrev pub invariant-loop-other : goal.invariant-loop-other
invariant-loop-other l = agrees (drop l.other-index l.jobs) l.job ≡ agrees l.jobs l.job
