use Rattle.std.proofs.Common.{◌≡◌, ◌≤◌, take}
use Rattle.cases.specs.Search.{count_lost}
use Rattle.cases.proofs.search.count_lost.Given as goal

abbrev pub invariant-loop-set : goal.invariant-loop-set
invariant-loop-set l = (l.count ≡ count_lost (take l.set-index l.sets)) × (l.count ≤ l.set-index)
