use Rattle.known.specs.Contradictions.{NoneBefore}
use Rattle.known.proofs.contradict.first_contradiction.Given as goal

abbrev pub invariant-loop-later : goal.invariant-loop-later
invariant-loop-later l = NoneBefore l.records l.later
