use Rattle.std.proofs.Common.{arith}
use Rattle.choices.proofs.Counts.{pairs_closed, pairs_none}
use Rattle.choices.proofs.ways.pairs.Goals as goal

pub returns-then-count-eq0-clause-value : goal.returns-then-count-eq0-clause-value
returns-then-count-eq0-clause-value c = pairs_none _ (omega (arith, c.from-count.ensures, c.if-count-eq0.true))

pub returns-else-count-eq0-clause-value : goal.returns-else-count-eq0-clause-value
returns-else-count-eq0-clause-value c = rw c.from-count.ensures (pairs_closed _ (omega (arith, c.from-count.ensures, c.if-count-eq0.false)))
