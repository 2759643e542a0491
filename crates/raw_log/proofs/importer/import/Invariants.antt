use Rattle.raw_log.proofs.Progress.{Progress}
use Rattle.raw_log.proofs.importer.import.Given as goal

abbrev pub invariant-loop-number : goal.invariant-loop-number
invariant-loop-number l = Progress l.raw l.times l.sectors l.limits l.out.items l.number l.start l.units
