use Rattle.ranges.specs.SeenStates.{state_of}
use Rattle.verifier.specs.Passing.{LearnsFrom}
use Rattle.verifier.proofs.learning.learn_values.Given as goal

abbrev pub invariant-loop-n : goal.invariant-loop-n
invariant-loop-n l = LearnsFrom (state_of l.initial.known) (state_of l.state) (state_of l.known)
