use Rattle.std.proofs.Common.{rules}
use Rattle.join.proofs.WordsRead.{by_write}
use Rattle.join.proofs.options.by_said.Goals as goal

pub returns-then-eq : goal.returns-then-eq
returns-then-eq c = by_write _ _ _ _ _ c.next_word.ensures (search rules) c.next_word-then-eq.ensures
