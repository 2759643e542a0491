use Rattle.case_text.proofs.Listed.{FatesBelow}
use Rattle.case_text.proofs.fates.fates_of.Given as goal

abbrev pub invariant-loop-number : goal.invariant-loop-number
invariant-loop-number l = FatesBelow l.set l.number l.fates.items
