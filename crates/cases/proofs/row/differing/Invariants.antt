use Rattle.std.proofs.Common.{ℕ}
use Rattle.cases.specs.Table.{difference}
use Rattle.cases.proofs.Mattering.{Added}
use Rattle.cases.proofs.row.differing.Given as goal

abbrev pub invariant-loop-number : goal.invariant-loop-number
invariant-loop-number l = Added (λ (i : ℕ). difference l.one l.other i) l.pieces l.found l.number l.more
