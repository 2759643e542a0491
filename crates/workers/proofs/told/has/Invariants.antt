use Rattle.std.proofs.Common.{◌<◌, ℕ, get_or}
use Rattle.workers.proofs.told.has.Given as goal

abbrev pub invariant-loop-own : goal.invariant-loop-own
invariant-loop-own l = (k : ℕ) → k < l.own-index → get_or l.numbers k 0 < l.number
