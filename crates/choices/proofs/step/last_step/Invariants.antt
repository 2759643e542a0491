use Rattle.std.proofs.Common.{◌≡◌, ◌-◌, None, drop, length}
use Rattle.choices.specs.Steps.{following}
use Rattle.choices.proofs.step.last_step.Given as goal

abbrev pub invariant-loop-beyond : goal.invariant-loop-beyond
invariant-loop-beyond l = following l.fates l.parts (drop (length l.picks - l.beyond) l.picks) ≡ None
