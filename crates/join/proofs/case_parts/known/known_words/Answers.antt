use Rattle.join.proofs.CaseWords.{known_read}
use Rattle.join.proofs.case_parts.known.known_words.Goals as goal

pub returns : goal.returns
returns c =
    known_read _ _ _ _ _ _ _ _ _ _ _ _ _ _ _ _ _ c.next_word.ensures c.next_word-2.ensures c.next_word-3.ensures c.named_said.ensures c.next_word-4.ensures c.next_word-5.ensures c.next_word-6.ensures c.next_word-7.ensures
