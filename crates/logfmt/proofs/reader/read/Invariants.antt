use Rattle.logfmt.proofs.Progress.{Progress}
use Rattle.logfmt.proofs.reader.read.Given as goal

abbrev pub invariant-loop-number : goal.invariant-loop-number
invariant-loop-number l = Progress l.bytes l.sectors l.limits l.entries.items l.number l.at l.units
