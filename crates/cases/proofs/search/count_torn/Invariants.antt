use Rattle.std.proofs.Common.{◌≡◌, ◌≤◌, take}
use Rattle.cases.specs.Search.{count_torn}
use Rattle.cases.proofs.search.count_torn.Given as goal

abbrev pub invariant-loop-set : goal.invariant-loop-set
invariant-loop-set l = (l.count ≡ count_torn (take l.set-index l.sets)) × (l.count ≤ l.set-index)
