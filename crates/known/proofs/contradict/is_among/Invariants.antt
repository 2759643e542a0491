use Rattle.std.proofs.Common.{◌≡◌, drop}
use Rattle.std.specs.List.{list_any}
use Rattle.known.specs.Contradictions.{clashes}
use Rattle.known.proofs.contradict.is_among.Given as goal

abbrev pub invariant-loop-other : goal.invariant-loop-other
invariant-loop-other l = list_any (clashes l.one) (drop l.other-index l.others) ≡ list_any (clashes l.one) l.others
