use Rattle.std.proofs.Common.{◌≡◌, map, take}
use Rattle.runs.specs.Blind.{is_noticed}
use Rattle.runs.proofs.blind.find_blind.Given as goal

abbrev pub invariant-loop-checker : goal.invariant-loop-checker
invariant-loop-checker l = l.out.items ≡ map (is_noticed l.task.plan.now) (take l.checker-index l.task.checkers.now)
