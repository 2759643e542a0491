use Rattle.request.specs.Fewer.{TooManyFrom}
use Rattle.request.proofs.facts.fewer.smaller_bound.Given as goal

abbrev pub invariant-loop-bound : goal.invariant-loop-bound
invariant-loop-bound l = TooManyFrom l.most l.plan l.tears l.bound l.below
