use Rattle.std.proofs.Common.{arith}
use Rattle.choices.proofs.Counts.{triples_closed, triples_none}
use Rattle.choices.proofs.ways.triples.Goals as goal

pub returns-then-count-lt2-clause-value : goal.returns-then-count-lt2-clause-value
returns-then-count-lt2-clause-value c = triples_none _ (omega (arith, c.from-count.ensures, c.if-count-lt2.true))

pub returns-else-count-lt2-clause-value : goal.returns-else-count-lt2-clause-value
returns-else-count-lt2-clause-value c = rw c.from-count.ensures (triples_closed _ (omega (arith, c.from-count.ensures, c.if-count-lt2.false)))
