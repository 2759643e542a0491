use Rattle.std.proofs.Common.{◌≡◌, ◌≤◌, take}
use Rattle.verifier.specs.Visits.{count_set}
use Rattle.verifier.proofs.rounds.count_set.Given as goal

abbrev pub invariant-loop-place : goal.invariant-loop-place
invariant-loop-place l = (l.set ≡ count_set (take l.place l.marks)) × (l.set ≤ l.place)
