use Rattle.join.proofs.HeadsRead.{choices_read}
use Rattle.join.proofs.options.choices_said.Goals as goal

pub returns : goal.returns
returns c =
    choices_read _ _ _ _ _ _ _ _ _ _ _ _ _ _ _ _ c.next_word.ensures c.next_word-2.ensures c.next_word-3.ensures c.next_word-4.ensures c.next_word-5.ensures c.next_word-6.ensures c.byte_number.ensures c.is_yes.ensures c.is_yes-2.ensures
