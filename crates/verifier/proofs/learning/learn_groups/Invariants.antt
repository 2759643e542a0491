use Rattle.ranges.specs.SeenStates.{state_of}
use Rattle.verifier.specs.Passing.{LearnsFrom}
use Rattle.verifier.proofs.learning.learn_groups.Given as goal

abbrev pub invariant-loop-turn : goal.invariant-loop-turn
invariant-loop-turn l = LearnsFrom (state_of l.initial.known) (state_of l.state) (state_of l.known)
