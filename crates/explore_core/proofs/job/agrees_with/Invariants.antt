use Rattle.std.proofs.Common.{◌≡◌, drop}
use Rattle.std.specs.List.{list_all}
use Rattle.explore_core.specs.Agreement.{agrees}
use Rattle.explore_core.proofs.job.agrees_with.Given as goal

abbrev pub invariant-loop-block : goal.invariant-loop-block
invariant-loop-block l = list_all (λ b. agrees b.items l.job) (drop l.block-index l.blocks) ≡ list_all (λ b. agrees b.items l.job) l.blocks
