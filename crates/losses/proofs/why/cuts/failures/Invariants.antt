use Rattle.std.proofs.Common.{map}
use Rattle.losses.proofs.Collected.{AreFirstCuts}
use Rattle.losses.proofs.why.cuts.failures.Given as goal

abbrev pub invariant-loop-place : goal.invariant-loop-place
invariant-loop-place l = AreFirstCuts l.fn.starts l.fn.failing (map (λ o. o.now) l.fn.outcomes) l.place l.found.items
