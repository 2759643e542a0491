use Rattle.std.proofs.Common.{◌≡◌, drop}
use Rattle.explore_core.specs.Cache.{cache_outcome}
use Rattle.explore_core.proofs.cache.cache_outcome.Given as goal

abbrev pub invariant-loop-entry : goal.invariant-loop-entry
invariant-loop-entry l = cache_outcome (drop l.entry-index l.cache) l.key ≡ cache_outcome l.cache l.key
