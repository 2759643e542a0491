use Rattle.std.proofs.Common.{take}
use Rattle.losses.specs.FailureWindows.{AreFailuresAt}
use Rattle.losses.proofs.cure.failures.failures_of.Given as goal

abbrev pub invariant-loop-mark : goal.invariant-loop-mark
invariant-loop-mark l = AreFailuresAt l.fn.starts (take l.mark-index l.fn.marks) l.failures.items
