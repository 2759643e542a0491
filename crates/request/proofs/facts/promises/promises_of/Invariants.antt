use Rattle.request.specs.Search.{IsSearched}
use Rattle.request.proofs.facts.promises.promises_of.Given as goal

abbrev pub invariant-loop-place : goal.invariant-loop-place
invariant-loop-place l = IsSearched l.entries l.place l.search
