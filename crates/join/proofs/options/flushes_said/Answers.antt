use Rattle.std.proofs.Common.{rules}
use Rattle.join.proofs.FlushesRead.{some_flush}
use Rattle.join.proofs.options.flushes_said.Goals as goal

pub returns-then-eq-clause-read : goal.returns-then-eq-clause-read
returns-then-eq-clause-read c = some_flush _ _ _ _ _ _ _ c.next_word.ensures (search rules) c.next_word-then-eq.ensures (search rules) c.flushes_with.ensures.read
