use Rattle.verifier.specs.Ways.{LearnsAlong}
use Rattle.verifier.proofs.way.learn_values.Given as goal

abbrev pub invariant-loop-turn : goal.invariant-loop-turn
invariant-loop-turn l = LearnsAlong l.way l.initial.table l.table
