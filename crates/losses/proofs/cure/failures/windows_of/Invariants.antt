use Rattle.std.proofs.Common.{◌≡◌, take}
use Rattle.losses.specs.FailureWindows.{windows_in}
use Rattle.losses.proofs.cure.failures.windows_of.Given as goal

abbrev pub invariant-loop-failure : goal.invariant-loop-failure
invariant-loop-failure l = l.windows.items ≡ windows_in (take l.failure-index l.failures)
