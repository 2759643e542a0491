use Rattle.std.proofs.Common.{◌≡◌, drop, not}
use Rattle.std.specs.List.{list_all, list_any}
use Rattle.known.specs.Contradictions.{clashes}
use Rattle.known.proofs.contradict.are_alike.Given as goal

abbrev pub invariant-loop-one : goal.invariant-loop-one
invariant-loop-one l = list_all (λ k. not (list_any (clashes k) l.others)) (drop l.one-index l.sectors) ≡ list_all (λ k. not (list_any (clashes k) l.others)) l.sectors
