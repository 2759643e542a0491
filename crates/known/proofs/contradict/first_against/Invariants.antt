use Rattle.known.specs.Contradictions.{NoneAgainst}
use Rattle.known.proofs.contradict.first_against.Given as goal

abbrev pub invariant-loop-earlier : goal.invariant-loop-earlier
invariant-loop-earlier l = NoneAgainst l.records l.earlier l.later
