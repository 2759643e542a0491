use Rattle.std.proofs.Common.{◌≡◌, drop, map}
use Rattle.explore_core.specs.Jobs.{all_jobs}
use Rattle.explore_core.specs.Agreement.{last_image}
use Rattle.explore_core.proofs.job.images_rise.Given as goal

abbrev pub invariant-loop-block : goal.invariant-loop-block
invariant-loop-block l = last_image l.last (all_jobs (map (λ b. b.items) (drop l.block-index l.blocks))) ≡ last_image 0 (all_jobs (map (λ b. b.items) l.blocks))
