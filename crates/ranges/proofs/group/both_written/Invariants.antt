use Rattle.std.proofs.Common.{◌≡◌, ◌<◌, ◌&&◌, ℕ, length}
use Rattle.std.specs.Prelude.{get_or, false}
use Rattle.ranges.proofs.group.both_written.Given as goal

abbrev pub invariant-loop-k : goal.invariant-loop-k
invariant-loop-k l = (length l.marks ≡ 8) × ((k : ℕ) → k < l.k → get_or l.marks k false ≡ (get_or l.x k false && get_or l.y k false))
