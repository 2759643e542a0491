use Rattle.std.proofs.Common.{◌≡◌, take}
use Rattle.crash_page.specs.Failing.{own_failures}
use Rattle.crash_page.proofs.failing.failures_of.Given as goal

abbrev pub invariant-loop-failure : goal.invariant-loop-failure
invariant-loop-failure l = l.own.items ≡ own_failures l.program (take l.failure-index l.failures)
