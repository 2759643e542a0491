use Rattle.std.proofs.Common.{◌≡◌, drop}
use Rattle.std.specs.List.{list_all}
use Rattle.explore_core.specs.Agreement.{agrees}
use Rattle.explore_core.proofs.job.all_agree.Given as goal

abbrev pub invariant-loop-job : goal.invariant-loop-job
invariant-loop-job l = list_all (λ job. list_all (λ b. agrees b.items job) l.blocks) (drop l.job-index l.jobs) ≡ list_all (λ job. list_all (λ b. agrees b.items job) l.blocks) l.jobs
