use Rattle.workers.proofs.Keeping.{AreClear}
use Rattle.workers.proofs.reuse.clear_all.Given as goal

abbrev pub invariant-loop-own : goal.invariant-loop-own
invariant-loop-own l = AreClear l.entries l.own-index
