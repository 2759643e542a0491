use Rattle.std.proofs.Common.{rules}
use Rattle.join.proofs.WordsRead.{option_found, option_lacking}
use Rattle.join.proofs.options.option_said.Goals as goal

pub returns-then-eq-clause-read : goal.returns-then-eq-clause-read
returns-then-eq-clause-read c = option_found _ _ _ _ _ _ _ c.requires c.next_word.ensures (search rules) c.next_word-then-eq.ensures c.number.ensures

pub returns-clause-read : goal.returns-clause-read
returns-clause-read c = option_lacking _ _ _ _ c.requires c.next_word.ensures (search rules)
