use Rattle.std.proofs.Common.{◌≡◌, take}
use Rattle.known_runs.specs.Totals.{totals_of}
use Rattle.known_runs.proofs.totals.totals_of.Given as goal

abbrev pub invariant-loop-one : goal.invariant-loop-one
invariant-loop-one l = l.all ≡ totals_of (take l.one-index l.found)
