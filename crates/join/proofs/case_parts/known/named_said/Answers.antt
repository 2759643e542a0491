use Rattle.std.proofs.Common.{rules}
use Rattle.join.proofs.CaseWords.{named_found, named_lacking}
use Rattle.join.proofs.case_parts.known.named_said.Goals as goal

pub returns-then-eq : goal.returns-then-eq
returns-then-eq c = named_found _ _ _ _ _ _ c.requires c.next_word.ensures (search rules) c.next_word-then-eq.ensures

pub returns : goal.returns
returns c = named_lacking _ _ _ _ c.requires c.next_word.ensures (search rules)
