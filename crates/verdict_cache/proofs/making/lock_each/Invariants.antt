use Rattle.std.proofs.Common.{◌≡◌, ◌++◌, length}
use Rattle.std.specs.Vec.Iter.{into_iter_items, into_iter_len}
use Rattle.verdict_cache.proofs.making.lock_each.Given as goal

abbrev pub invariant-loop-value : goal.invariant-loop-value
invariant-loop-value g l = (l.yielded ++ into_iter_items l.value-iterator ≡ into_iter_items l.initial.value-iterator)
    × (length l.locks.items ≡ length l.yielded)
    × (into_iter_len l.value-iterator ≡ length (into_iter_items l.value-iterator))
