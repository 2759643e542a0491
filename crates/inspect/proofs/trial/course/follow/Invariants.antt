use Rattle.inspect.proofs.Steps.{Comes}
use Rattle.inspect.proofs.trial.course.follow.Given as goal

abbrev pub invariant-loop-made : goal.invariant-loop-made
invariant-loop-made g l = Comes l.initial.walk l.limit l.made l.walk
