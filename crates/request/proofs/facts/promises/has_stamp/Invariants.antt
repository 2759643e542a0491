use Rattle.request.specs.Search.{AllAre}
use Rattle.request.proofs.facts.promises.has_stamp.Given as goal

abbrev pub invariant-loop-place : goal.invariant-loop-place
invariant-loop-place l = AllAre l.stamps l.stamp l.entry.sector l.place
