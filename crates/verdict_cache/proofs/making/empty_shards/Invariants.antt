use Rattle.std.proofs.Common.{◌≡◌}
use Rattle.verdict_cache.specs.Sizes.{first_shards}
use Rattle.verdict_cache.proofs.making.empty_shards.Given as goal

abbrev pub invariant-loop-number : goal.invariant-loop-number
invariant-loop-number g l = l.shards.items ≡ first_shards l.fn.size l.number
